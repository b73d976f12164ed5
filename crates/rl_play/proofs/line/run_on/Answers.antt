use Rattle.std.proofs.Common.{◌≡◌, Ok}
use Rattle.rl_script.specs.Said.{line_said}
use Rattle.rl_play.specs.Work.{asked, one_op}
use Rattle.rl_play.proofs.LineLemmas.{item_asks, runs_as}
use Rattle.rl_play.proofs.StageLemmas.{stage_still}
use Rattle.rl_play.proofs.line.run_on.Goals as goal

pub returns-in_default-clause-run : goal.returns-in_default-clause-run
returns-in_default-clause-run g c =
    let l = c.in-OnItem.item in
    let same : asked c.args.stage.now.model.now (Ok (line_said c.args.line.now)) ≡ one_op c.args.stage.now.model.now (line_said c.args.line.now) =
    rw c.in-OnItem.is (item_asks c.args.stage.now.model.now l.item l.path l.first l.second l.map c.in_default.not-BurstRead) in
    runs_as _ _ _ _ _ same c.operation.ensures.run

pub returns-in-Blank-clause-stays : goal.returns-in-Blank-clause-stays
returns-in-Blank-clause-stays g c = stage_still g.D.Device g.K.Sink _ c.args.stage.now _ c.requires.ready

pub returns-in-BurstWrite-clause-stays : goal.returns-in-BurstWrite-clause-stays
returns-in-BurstWrite-clause-stays g c = c.write_burst.ensures.stays

pub returns-in-BurstRead-clause-stays : goal.returns-in-BurstRead-clause-stays
returns-in-BurstRead-clause-stays g c = c.read_burst.ensures.stays

pub returns-in_default-clause-stays : goal.returns-in_default-clause-stays
returns-in_default-clause-stays g c = c.operation.ensures.stays

pub returns-in-Seq-clause-stays : goal.returns-in-Seq-clause-stays
returns-in-Seq-clause-stays g c = c.sequence.ensures.stays
