-- Masks made of the tables, row by row.
use Rattle.std.proofs.Common.{◌≡◌, ℕ, Bool, true, false, not, ◌&&◌, ◌||◌, cond, eqb, refl, Option, Some, None, is_some, arith}
use Rattle.std.specs.Prelude.{option_map}
use Rattle.std.specs.Option.{option_or}
use Rattle.std.proofs.lemmas.Bool.Decides.{nat_tests}
use Rattle.rl_policy.specs.Bits.{is_within}
use Rattle.rl_bus.specs.declared.table.StuckRow.{StuckRow}
use Rattle.rl_bus.specs.Setup.{or_else}

pub own_bit : (x reg y b : ℕ) → x ≡ reg → is_within y 1 b ≡ (eqb x reg && eqb y b)
own_bit x reg y b e = grind (arith, nat_tests)

pub other_bit : (x reg y b : ℕ) → (x ≡ reg → ⊥) → false ≡ (eqb x reg && eqb y b)
other_bit x reg y b h = grind (arith, nat_tests)

abbrev value_of : Option StuckRow → Option Bool
value_of o = option_map (λ s. s.value) o

pub stuck_bit : (o : Option StuckRow) (c : Bool) (x : StuckRow) → (is_some (value_of o) || (c && not (is_some (value_of o)))) ≡ is_some (value_of (option_or o (cond c (Some x) None)))
stuck_bit (Some j) c x = refl
stuck_bit None true x = refl
stuck_bit None false x = refl

pub stuck_value : (o : Option StuckRow) (c : Bool) (x : StuckRow)
    → (or_else (value_of o) false || ((c && not (is_some (value_of o))) && x.value)) ≡ or_else (value_of (option_or o (cond c (Some x) None))) false
stuck_value (Some j) c x = by c j.value
  where
    by : (c v : Bool) → (v || ((c && false) && x.value)) ≡ v
    by c true = refl
    by true false = refl
    by false false = refl
stuck_value None true x = refl
stuck_value None false x = refl
