use Rattle.std.proofs.Common.{arith}
use Rattle.rl_session.specs.Soak.{script_text}
use Rattle.rl_session.proofs.ListingLemmas.{more_pushed, line_drawn, script_closed}
use Rattle.rl_session.proofs.soak.push_script.Goals as goal

pub loop-line-preserved : goal.loop-line-preserved
loop-line-preserved c =
    let line = rw (c.step_of.ensures, c.drawn.ensures, c.drawn-in-loop-line.ensures, c.drawn-in-loop-line-2.ensures) at
    c.in_ok-push_line.ensures in
    more_pushed c.args.text.now.items _ _ (script_text 20000 c.args.n) _ _ _ c.loop-line.invariant
    (line_drawn _ _ _ _ c.loop-line._line 20000 c.next_state-first.ensures c.next_state-second.ensures
    c.next_state-x.ensures (omega arith)) line

pub returns : goal.returns
returns c =
    script_closed _ c.args.text.now.items _ _
    (script_text 20000 c.args.n) c.loop-line.x c.loop-line._line 20000 c.loop-line.invariant
    (omega arith) c.extend_from_slice.ensures.items
