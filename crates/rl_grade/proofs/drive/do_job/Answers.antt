use Rattle.rl_bus.specs.Account.{without_peer}
use Rattle.rl_play.proofs.Judging.{here}
use Rattle.rl_grade.proofs.Driving.{drives_burst}
use Rattle.rl_grade.proofs.drive.do_job.Goals as goal

pub returns-in-BurstWrite-clause-drives : goal.returns-in-BurstWrite-clause-drives
returns-in-BurstWrite-clause-drives g c =
    let d = drives_burst g.R.Recorder.takes g.R.Recorder.breaks _ _ _ _ _ _ _ _ _ (here _ _ (without_peer 0) _)
    (rw c.items-values.ensures.items at c.burst_write.ensures.hands_over) in
    rw c.in-BurstWrite.is d

pub returns-in-BurstRead-clause-drives : goal.returns-in-BurstRead-clause-drives
returns-in-BurstRead-clause-drives g c =
    let d = drives_burst g.R.Recorder.takes g.R.Recorder.breaks _ _ _ _ _ _ _ _ _ (here _ _ (without_peer 0) _) c.burst_read.ensures.hands_over in
    rw c.in-BurstRead.is d
