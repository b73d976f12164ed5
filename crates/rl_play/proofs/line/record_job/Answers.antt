use Rattle.std.proofs.Common.{length, subst}
use Rattle.rl_play.specs.Job.{JobHasNumbers}
use Rattle.rl_play.proofs.Recorded.{burst_recorded}
use Rattle.rl_play.proofs.line.record_job.Goals as goal

pub returns-in-Sequence : goal.returns-in-Sequence
returns-in-Sequence g c = rw c.in-Sequence.is c.run_sequence.ensures

pub returns-in-BurstWrite : goal.returns-in-BurstWrite
returns-in-BurstWrite g c =
    let r = c.burst_write.ensures in
    rw c.in-BurstWrite.is (burst_recorded g.K.Sink _ _ _ _ _ _ _ _ r.hands_over r.ready r.model r.cause r.steady)

pub returns-in-BurstRead : goal.returns-in-BurstRead
returns-in-BurstRead g c =
    let r = c.burst_read.ensures in
    rw c.in-BurstRead.is (burst_recorded g.K.Sink _ _ _ _ _ _ _ _ r.hands_over r.ready r.model r.cause r.steady)

pub run_sequence-requires-clause-block : goal.run_sequence-requires-clause-block
run_sequence-requires-clause-block g c =
    subst (JobHasNumbers c.args.model.now.chip (length c.args.model.now.layout.maps)) c.in-Sequence.is c.requires.numbers

pub burst_write-requires-clause-mem : goal.burst_write-requires-clause-mem
burst_write-requires-clause-mem g c =
    (subst (JobHasNumbers c.args.model.now.chip (length c.args.model.now.layout.maps)) c.in-BurstWrite.is c.requires.numbers).0

pub burst_write-requires-clause-map : goal.burst_write-requires-clause-map
burst_write-requires-clause-map g c =
    (subst (JobHasNumbers c.args.model.now.chip (length c.args.model.now.layout.maps)) c.in-BurstWrite.is c.requires.numbers).1

pub burst_read-requires-clause-mem : goal.burst_read-requires-clause-mem
burst_read-requires-clause-mem g c =
    (subst (JobHasNumbers c.args.model.now.chip (length c.args.model.now.layout.maps)) c.in-BurstRead.is c.requires.numbers).0

pub burst_read-requires-clause-map : goal.burst_read-requires-clause-map
burst_read-requires-clause-map g c =
    (subst (JobHasNumbers c.args.model.now.chip (length c.args.model.now.layout.maps)) c.in-BurstRead.is c.requires.numbers).1
