use Rattle.std.proofs.Common.{Ok}
use Rattle.rl_bus.specs.Account.{without_peer}
use Rattle.rl_play.proofs.Judging.{here}
use Rattle.rl_grade.proofs.Driving.{drives_broken, drives_one}
use Rattle.rl_grade.proofs.drive.do_one.Goals as goal

pub returns-in_err-step-clause-drives : goal.returns-in_err-step-clause-drives
returns-in_err-step-clause-drives g c =
    let broken = c.in_err-step.ensures.broken in
    drives_broken g.R.Recorder.takes g.R.Recorder.breaks _ _ _ _ _ _ _ c.from_residual.result c.from_residual.ensures.0 (here _ _ (without_peer 0) _)
    c.perform-event.ensures.does.performs broken

pub returns-clause-drives : goal.returns-clause-drives
returns-clause-drives g c =
    drives_one g.R.Recorder.takes g.R.Recorder.breaks _ _ _ _ _ _ _ (Ok _) (here _ _ (without_peer 0) _)
    c.perform-event.ensures.does.performs c.in_ok-step.ensures.taken tt
