use Rattle.rl_bus.specs.Account.{without_peer}
use Rattle.rl_play.proofs.Judging.{here}
use Rattle.rl_grade.proofs.Driving.{drives_plan}
use Rattle.rl_grade.proofs.drive.do_sequence.Goals as goal

pub returns-in-HwReset-clause-drives : goal.returns-in-HwReset-clause-drives
returns-in-HwReset-clause-drives g c =
    let d = drives_plan g.R.Recorder.takes g.R.Recorder.breaks _ _ _ _ _ _ _ (here _ _ (without_peer 0) _) c.hw_reset.ensures.hands_over in
    rw c.in-HwReset.is d

pub returns-in-BitBash-clause-drives : goal.returns-in-BitBash-clause-drives
returns-in-BitBash-clause-drives g c =
    let d = drives_plan g.R.Recorder.takes g.R.Recorder.breaks _ _ _ _ _ _ _ (here _ _ (without_peer 0) _) c.bit_bash.ensures.hands_over in
    rw c.in-BitBash.is d

pub returns-in-Access-clause-drives : goal.returns-in-Access-clause-drives
returns-in-Access-clause-drives g c =
    let d = drives_plan g.R.Recorder.takes g.R.Recorder.breaks _ _ _ _ _ _ _ (here _ _ (without_peer 0) _) c.access_test.ensures.hands_over in
    rw c.in-Access.is d

pub returns-in-Shared-clause-drives : goal.returns-in-Shared-clause-drives
returns-in-Shared-clause-drives g c =
    let d = drives_plan g.R.Recorder.takes g.R.Recorder.breaks _ _ _ _ _ _ _ (here _ _ (without_peer 0) _) c.shared_access.ensures.hands_over in
    rw c.in-Shared.is d

pub returns-in-MemWalk-clause-drives : goal.returns-in-MemWalk-clause-drives
returns-in-MemWalk-clause-drives g c =
    let d = drives_plan g.R.Recorder.takes g.R.Recorder.breaks _ _ _ _ _ _ _ (here _ _ (without_peer 0) _) c.mem_walk.ensures.hands_over in
    rw c.in-MemWalk.is d
