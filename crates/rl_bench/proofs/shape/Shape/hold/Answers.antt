use Rattle.std.proofs.Common.{◌≡◌, Bool, false, cond, Option, Some, None, refl, is_some}
use Rattle.rl_policy.specs.Bits.{bit}
use Rattle.rl_policy.proofs.BitLemmas.{is_from_bits}
use Rattle.rl_bus.specs.Setup.{held, or_else, stuck_at}
use Rattle.rl_bench.proofs.shape.Shape.hold.Goals as goal

held_bit : (o : Option Bool) (x : Bool) → cond (is_some o) (or_else o false) x ≡ or_else o x
held_bit None x = refl
held_bit (Some v) x = refl

pub returns : goal.returns
unfolding held
returns c at e =
    is_from_bits 64 _ _ c.replaced.type_inv
    (λ b k. rw (c.replaced.ensures b k, e.stuck b k, e.values b k) (held_bit (stuck_at at.setup at.reg b) (bit c.args.bits b)))
