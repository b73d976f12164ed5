-- The lines from the next one on are left.
use Rattle.std.proofs.Common.{◌≡◌, ◌++◌, ◌-◌}
use Rattle.rl_session.specs.Soak.{script_text}
use Rattle.rl_session.proofs.soak.push_script.Given as goal

abbrev pub invariant-loop-line : goal.invariant-loop-line
invariant-loop-line l = l.text.items ++ script_text (20000 - l._line) l.x ≡ l.initial.text.items ++ script_text 20000 l.n
