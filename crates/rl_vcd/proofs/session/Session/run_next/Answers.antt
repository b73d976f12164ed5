use Rattle.std.proofs.Common.{Err, ap, ◌∙◌}
use Rattle.rl_play.proofs.LeavesLemmas.{leaves_ended, leaves_taken, leaves_untaken}
use Rattle.rl_play.proofs.StageLemmas.{ready_still}
use Rattle.rl_vcd.proofs.ScriptLemmas.{line_cut, line_drawn, line_over}
use Rattle.rl_vcd.proofs.session.Session.run_next.Goals as goal

pub returns-in-Err-clause-leaves : goal.returns-in-Err-clause-leaves
returns-in-Err-clause-leaves g c =
    let e = c.take_line.ensures in
    leaves_untaken g.L.Sink _ _ _ _ _ _ _ c.in-Err.status e.found e.ended
    (λ fault. (e.at_fault (c.in-Err.is ∙ ap Err fault)).goes_on) c.in-Err.ensures.leaves

pub returns-then-is_end-clause-leaves : goal.returns-then-is_end-clause-leaves
returns-then-is_end-clause-leaves g c =
    let e = c.take_line.ensures in
    leaves_ended g.L.Sink _ _ _ _ _ _ _ _ _ c.end.result e.found e.ended c.in-Ok.ensures.leaves c.end.ensures.leaves

pub returns-clause-leaves : goal.returns-clause-leaves
returns-clause-leaves g c =
    let e = c.take_line.ensures in
    let r = c.run_taken.ensures in
    leaves_taken g.L.Sink _ _ _ _ _ _ _ _ _ c.run_taken.result e.found (λ is. c.in-Ok.ensures.going (r.next is).0) e.ended
    c.in-Ok.ensures.leaves r.runs.leaves

pub returns-in-Err-clause-draws : goal.returns-in-Err-clause-draws
returns-in-Err-clause-draws g c =
    line_cut g.K.Sink c.args.number _ _ c.args.lines.now c.take_line.new.lines _ _ _ c.in-Err.status _ c.in-Err.ensures.broken
    c.take_line.ensures.told (λ fault. c.take_line.ensures.at_fault (c.in-Err.is ∙ ap Err fault))

pub returns-then-is_end-clause-draws : goal.returns-then-is_end-clause-draws
returns-then-is_end-clause-draws g c =
    line_over g.K.Sink c.args.number _ _ _ _ c.in-Ok.got c.take_line.new.lines _ _ _ c.end.result _ (c.is_end.ensures.end c.if-is_end.true)
    c.in-Ok.ensures.handed c.take_line.ensures.told c.end.ensures.leaves.cause c.end.ensures.tells c.end.ensures.counted

pub returns-clause-draws : goal.returns-clause-draws
returns-clause-draws g c =
    let r = c.run_taken.ensures in
    line_drawn g.K.Sink c.args.number _ _ _ _ c.in-Ok.got _ c.take_line.new.lines _ _ _ c.run_taken.result _ _
    (c.is_end.ensures.more c.if-is_end.false) (λ is. (r.next is).0) c.in-Ok.ensures.handed c.line-line.ensures c.take_line.ensures.told
    r.runs.draws r.runs.leaves.cause r.runs.counted (λ is. (r.next is).1)

pub returns-in-Err-clause-ready : goal.returns-in-Err-clause-ready
returns-in-Err-clause-ready g c = ready_still _ _ _ c.requires.ready

pub returns-then-is_end-clause-ready : goal.returns-then-is_end-clause-ready
returns-then-is_end-clause-ready g c = ready_still _ _ _ c.requires.ready

pub returns-clause-ready : goal.returns-clause-ready
returns-clause-ready g c = c.run_taken.ensures.runs.ready

pub returns-clause-same : goal.returns-clause-same
returns-clause-same g c =
    let same = c.run_taken.ensures.runs.same in
    record { log = same.log; dump = same.dump }
