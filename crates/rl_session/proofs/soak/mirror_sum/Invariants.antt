-- The values from the next one on are left.
use Rattle.std.proofs.Common.{◌≡◌, drop}
use Rattle.rl_session.specs.Soak.{mirror_sum}
use Rattle.rl_session.proofs.soak.mirror_sum.Given as goal

abbrev pub invariant-loop-reg : goal.invariant-loop-reg
invariant-loop-reg l = mirror_sum l.sum (drop l.reg l.mirror.mirrored) ≡ mirror_sum 0 l.mirror.mirrored
