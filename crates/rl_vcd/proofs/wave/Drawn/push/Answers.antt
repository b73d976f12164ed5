use Rattle.rl_vcd.proofs.TextLemmas.{last, more}
use Rattle.rl_vcd.proofs.wave.Drawn.push.Goals as goal

pub returns : goal.returns
returns c = more _ _ _ _ _ (rw (c.pins_at.ensures) at c.in_ok-push_setup.ensures) (more _ _ _ _ _ c.in_ok-push_access.ensures (last _ _ _ (rw (c.pins_at-2.ensures) at c.in_ok-push_end.ensures)))
