-- The operation that an event names.
use Rattle.std.proofs.Common.{◌≡◌, ℕ, ◌<◌, ◌≤◌, true, length, Option, None, Some, refl, sym, ap, subst}
use Rattle.rl_model.specs.declared.rows.Item.TheVariants as item
use Rattle.rl_map.specs.Layout.{place_at, words_of}
use Rattle.rl_access.specs.declared.event.End.{End}
use Rattle.rl_access.specs.declared.event.End.TheVariants.{BusError}
use Rattle.rl_access.specs.Event.{IsEndWithin}
use Rattle.rl_access.specs.Model.{ModelData, IsModel}
use Rattle.rl_access.specs.Operation.{register_of, HasNumbers, IsMapIn, has_end, digits_of}
use Rattle.rl_access.specs.Rules.{named, map_used, map_of_place}
use Rattle.rl_access.proofs.Whole.{first_of_place}
use Rattle.rl_weave.specs.Access.{op_with}
use Rattle.rl_weave.proofs.Granted.{IsGranted}

pub reg_in : (m : ModelData) (reg : ℕ) (map value : Option ℕ) → HasNumbers m.chip (length m.layout.maps) (op_with reg map value) →
    reg < length m.chip.regs
reg_in m reg map None numbers = numbers.0
reg_in m reg map (Some value) numbers = numbers.0

pub named_register : (m : ModelData) (reg : ℕ) (map value : Option ℕ) → register_of m.chip (named m (op_with reg map value)) ≡ Some reg
named_register m reg map None = refl
named_register m reg map (Some value) = refl

used_in : (m : ModelData) (reg : ℕ) (map value : Option ℕ) (place : ℕ) → IsModel m → IsGranted m reg map value place →
    IsMapIn (length m.layout.maps) (map_used m (item.Reg reg) map)
used_in m reg map value place ok at =
    subst (λ p. IsMapIn (length m.layout.maps) (map_of_place m.layout p map)) (sym at.found) (ok.layout.each_place place at.there.inside).map

pub named_numbers : (m : ModelData) (reg : ℕ) (map value : Option ℕ) (place : ℕ) → IsModel m → IsGranted m reg map value place →
    reg < length m.chip.regs → HasNumbers m.chip (length m.layout.maps) (named m (op_with reg map value))
named_numbers m reg map None place ok at inside = (inside, used_in m reg map None place ok at)
named_numbers m reg map (Some value) place ok at inside = (inside, used_in m reg map (Some value) place ok at)

pub named_ends : (m : ModelData) (reg : ℕ) (map value : Option ℕ) (e : End) → has_end (op_with reg map value) e ≡ true →
    has_end (named m (op_with reg map value)) e ≡ true
named_ends m reg map None e h = h
named_ends m reg map (Some value) e h = h

pub named_fails : (m : ModelData) (reg k : ℕ) (map value : Option ℕ) → has_end (named m (op_with reg map value)) (BusError k) ≡ true
named_fails m reg k map None = refl
named_fails m reg k map (Some value) = refl

pub named_within : (m : ModelData) (reg : ℕ) (map value : Option ℕ) (e : End) → IsEndWithin (digits_of m.chip (op_with reg map value)) e →
    IsEndWithin (digits_of m.chip (named m (op_with reg map value))) e
named_within m reg map None e h = h
named_within m reg map (Some value) e h = h

-- its map is that of the place
pub named_at : (m : ModelData) (reg : ℕ) (map value : Option ℕ) (place : ℕ) → IsGranted m reg map value place →
    map_used m (item.Reg reg) map ≡ Some (place_at m.layout place).map
named_at m reg map value place at = ap (λ p. map_of_place m.layout p map) at.found

-- a register has at most eight words
pub few_words : (m : ModelData) (place : ℕ) → IsModel m → place < length m.layout.places → length (words_of m.layout place 0) ≤ 8
few_words m place ok inside = (ok.layout.each_location place 0 (first_of_place m.layout place ok.layout inside)).few
