use Rattle.std.proofs.Common.{Err, ap, ◌∙◌}
use Rattle.rl_play.proofs.LeavesLemmas.{leaves_ended, leaves_taken, leaves_untaken}
use Rattle.rl_play.proofs.StageLemmas.{ready_still}
use Rattle.rl_play.proofs.TurnLemmas.{line_untaken, line_ended, line_taken}
use Rattle.rl_play.proofs.playing.play_line.Goals as goal

pub returns-in-Err-clause-leaves : goal.returns-in-Err-clause-leaves
returns-in-Err-clause-leaves g c =
    let e = c.take_line.ensures in
    leaves_untaken g.L.Sink _ _ _ _ _ _ _ c.in-Err.status e.found e.ended
    (λ fault. (e.at_fault (c.in-Err.is ∙ ap Err fault)).goes_on) c.in-Err.ensures.leaves

pub returns-then-is_end-clause-leaves : goal.returns-then-is_end-clause-leaves
returns-then-is_end-clause-leaves g c =
    let e = c.take_line.ensures in
    leaves_ended g.L.Sink _ _ _ _ _ _ _ _ _ c.end.result e.found e.ended c.in-Ok.ensures.leaves c.end.ensures.leaves

pub returns-clause-leaves : goal.returns-clause-leaves
returns-clause-leaves g c =
    let e = c.take_line.ensures in
    let r = c.run_taken.ensures in
    leaves_taken g.L.Sink _ _ _ _ _ _ _ _ _ c.run_taken.result e.found (λ is. c.in-Ok.ensures.going (r.short is)) e.ended
    c.in-Ok.ensures.leaves r.leaves

pub returns-in-Err-clause-plays : goal.returns-in-Err-clause-plays
returns-in-Err-clause-plays g c =
    line_untaken c.args.number _ _ c.args.lines.now c.take_line.new.lines _ _ _ c.in-Err.status c.in-Err.ensures.broken
    c.take_line.ensures.told (λ fault. c.take_line.ensures.at_fault (c.in-Err.is ∙ ap Err fault))

pub returns-then-is_end-clause-plays : goal.returns-then-is_end-clause-plays
returns-then-is_end-clause-plays g c =
    line_ended c.args.number _ _ _ _ c.in-Ok.got c.take_line.new.lines _ _ _ c.end.result (c.is_end.ensures.end c.if-is_end.true)
    c.in-Ok.ensures.handed c.take_line.ensures.told c.end.ensures.leaves.cause c.end.ensures.tells c.end.ensures.counted

pub returns-clause-plays : goal.returns-clause-plays
returns-clause-plays g c =
    let r = c.run_taken.ensures in
    line_taken c.args.number _ _ _ _ c.in-Ok.got _ c.take_line.new.lines _ _ _ c.run_taken.result
    (c.is_end.ensures.more c.if-is_end.false) r.short c.in-Ok.ensures.handed c.line-line.ensures c.take_line.ensures.told
    r.turn r.leaves.cause r.counted r.last

pub returns-in-Err-clause-ready : goal.returns-in-Err-clause-ready
returns-in-Err-clause-ready g c = ready_still _ _ _ c.requires.ready

pub returns-then-is_end-clause-ready : goal.returns-then-is_end-clause-ready
returns-then-is_end-clause-ready g c = ready_still _ _ _ c.requires.ready

pub returns-clause-ready : goal.returns-clause-ready
returns-clause-ready g c = c.run_taken.ensures.ready

pub run_taken-requires : goal.run_taken-requires
run_taken-requires g c = record { ready = c.requires.ready }
