use Rattle.std.proofs.Common.{ap, refl, sym, ◌∙◌}
use Rattle.rl_play.specs.Work.{asked}
use Rattle.rl_play.proofs.LeavesLemmas.{stop_is_no_next}
use Rattle.rl_play.proofs.PlayLemmas.{empty_said, heard_read}
use Rattle.rl_play.proofs.StageLemmas.{ready_still}
use Rattle.rl_vcd.proofs.LineLemmas.{read_refused}
use Rattle.rl_vcd.proofs.SessionLemmas.{line_blank, turn_as, turn_next}
use Rattle.rl_vcd.proofs.session.Session.run_taken.Goals as goal

pub returns-in-Some-clause-next : goal.returns-in-Some-clause-next
returns-in-Some-clause-next g c = λ next. absurd (stop_is_no_next _ next)

pub returns-in-Some-clause-runs : goal.returns-in-Some-clause-runs
returns-in-Some-clause-runs g c =
    let e = c.refuse.ensures in
    record {
      draws = read_refused g.K.Sink c.args.number _ _ _ _ _ _ (ap (asked c.args.self.now.model.now) (c.in-Some.ensures.refused c.args.line.now)) e.tells;
      counted = e.counted;
      ready = ready_still _ _ _ c.requires;
      leaves = e.leaves;
      same = record { log = refl; dump = refl };
    }

pub returns-then-is_empty-clause-next : goal.returns-then-is_empty-clause-next
returns-then-is_empty-clause-next g c = λ next. (c.in_default.ensures.short, c.in_default.ensures.last)

pub returns-then-is_empty-clause-runs : goal.returns-then-is_empty-clause-runs
returns-then-is_empty-clause-runs g c =
    let read = heard_read c.args.number c.args.got c.args.line.now c.in_default.ensures.last c.in_default.ensures.short in
    turn_next g.L.Sink g.K.Sink c.args.number _ _ _ _ _ _ _
    (ap (asked c.args.self.now.model.now) (sym read ∙ empty_said c.args.line.now (sym c.is_empty.ensures ∙ c.if-is_empty.true))) refl
    (line_blank g.L.Sink g.K.Sink _ _ c.requires)

pub returns-clause-next : goal.returns-clause-next
returns-clause-next g c = λ next. (c.in_default.ensures.short, c.in_default.ensures.last)

pub returns-clause-runs : goal.returns-clause-runs
returns-clause-runs g c =
    let read = heard_read c.args.number c.args.got c.args.line.now c.in_default.ensures.last c.in_default.ensures.short in
    turn_as g.L.Sink g.K.Sink c.args.number _ _ _ _ _ _ _ (ap (asked c.args.self.now.model.now) (sym read)) c.run_read.ensures
