use Rattle.std.proofs.Common.{◌≡◌, Ok}
use Rattle.rl_script.specs.Said.{line_said}
use Rattle.rl_play.specs.Work.{asked, one_op}
use Rattle.rl_play.proofs.LineLemmas.{item_asks}
use Rattle.rl_vcd.proofs.SessionLemmas.{line_as, line_blank}
use Rattle.rl_vcd.proofs.session.Session.run_line.Goals as goal

pub returns-in-Blank : goal.returns-in-Blank
returns-in-Blank g c = rw c.in-Blank.is (line_blank g.L.Sink g.K.Sink _ _ c.requires)

pub returns-in_default : goal.returns-in_default
returns-in_default g c =
    let l = c.in-OnItem.item in
    let same : asked c.args.self.now.model.now (Ok (line_said c.args.line.now)) ≡ one_op c.args.self.now.model.now (line_said c.args.line.now) =
    rw c.in-OnItem.is (item_asks c.args.self.now.model.now l.item l.path l.first l.second l.map c.in_default.not-BurstRead) in
    line_as g.L.Sink g.K.Sink _ _ _ _ _ _ _ same c.operation.ensures
