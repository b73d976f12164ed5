-- The largest value of a width.
use Rattle.std.proofs.Common.{◌≡◌, ℕ, ◌-◌, ◌^◌, nat_le, nat_lt, refl, sym, ◌∙◌, arith}
use borrow.Author.Tests.{le-leb, lt-leb, lt-ltb, le-ltb}
use Rattle.std.proofs.lemmas.Nat.{pow_pos}
use Rattle.rl_access.proofs.Narrow.{by_test}

-- a value is at most the largest one exactly where it is below the limit
pub most_below : (value width most : ℕ) → most ≡ 2 ^ width - 1 → nat_le value most ≡ nat_lt value (2 ^ width)
most_below value width most e =
    let some = pow_pos width in
    by_test value (2 ^ width) (nat_le value most ≡ nat_lt value (2 ^ width)) (nat_lt value (2 ^ width)) refl
    (λ below. le-leb value most (omega arith) ∙ sym (lt-ltb value (2 ^ width) below))
    (λ above. lt-leb value most (omega arith) ∙ sym (le-ltb value (2 ^ width) above))
