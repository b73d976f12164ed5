-- Which flaws are the single ones of a place, and that the lists have each of them.
use Rattle.std.specs.Prelude.{◌≡◌, ◌≢◌, ◌⊎◌, ℕ, ◌^◌, ◌<◌, true, false, bit_xor, bytes_eq, List, length, All, AllPairs, Contains, Option, Some, None}
use Rattle.rl_policy.specs.declared.policy.Policy.{Policy}
use Rattle.rl_policy.specs.Names.{name_of}
use Rattle.rl_model.specs.declared.rows.Item.{Item}
use Rattle.rl_model.specs.Rows.{ChipData}
use Rattle.rl_bus.specs.declared.table.WordRow.{WordRow}
use Rattle.rl_flaw.specs.declared.flaw.Flaw.{Flaw}
use Rattle.rl_flaw.specs.declared.flaw.Flaw.TheVariants.{Deaf, ErrorNth, ErrorRange, OtherPolicy, OtherReset, Stuck}
use Rattle.rl_flaw.specs.Flaws.{width_of}
use Rattle.rl_desc.specs.Data.{DescData}
use Rattle.rl_desc.specs.Flaws.{reset_value}
use Rattle.rl_grade.specs.declared.place.Place.{Place}
use Rattle.rl_grade.specs.declared.place.Place.TheVariants.{OfItem, OfField, OfSession}
use Rattle.rl_grade.specs.Flaws.{is_own, policy_of, row_at}
use Rattle.rl_grade.specs.Place.{flaws_at}

-- a value that is wrong in one bit
abbrev pub IsWrongIn : (width : ℕ) → (own : Option ℕ) → ℕ → Type 0
IsWrongIn width None v = ⊥
IsWrongIn width (Some own) v = (b : ℕ) × (b < width) × (v ≡ bit_xor own (2 ^ b))

-- a policy of another name
abbrev pub IsOtherThan : Option Policy → Policy → Type 0
IsOtherThan None p = ⊥
IsOtherThan (Some own) p = bytes_eq (name_of p) (name_of own) ≡ false

-- an address that is the item's own
abbrev pub HasAddress : ChipData → List WordRow → Item → (port address : ℕ) → Type 0
HasAddress c rows i port address =
    (k : ℕ) × (k < length rows) × (is_own c rows k i ≡ true) × ((row_at rows k).port ≡ port)
    × ((row_at rows k).address ≡ address)

-- the flaw is a single one of the place, where the session sends so many bus items
abbrev pub IsSingleAt : DescData → (items : ℕ) → Place → Flaw → Type 0
IsSingleAt d items (OfField f) (Stuck g b v) = (g ≡ f) × (b < width_of d.chip f)
IsSingleAt d items (OfField f) (OtherReset g k v) =
    (g ≡ f) × (k < length d.chip.kinds) × IsWrongIn (width_of d.chip f) (reset_value d.chip f k) v
IsSingleAt d items (OfField f) (OtherPolicy g p) = (g ≡ f) × IsOtherThan (policy_of d.chip f) p
IsSingleAt d items (OfItem i) (Deaf j) = j ≡ i
IsSingleAt d items (OfItem i) (ErrorRange port from to) = (to ≡ from) × HasAddress d.chip d.layout.rows i port from
IsSingleAt d items OfSession (ErrorNth n) = (0 < items) × ((n ≡ 1) ⊎ (n ≡ items))
IsSingleAt d items place flaw = ⊥

-- each single flaw of a place is in its list
abbrev pub NoneIsLeftOut : Type 0
NoneIsLeftOut =
    (d : DescData) (items : ℕ) (place : Place) (flaw : Flaw) → IsSingleAt d items place flaw
    → Contains (flaws_at d items place) flaw

-- each flaw of a place's list is a single one of it
abbrev pub NoneIsMadeUp : Type 0
NoneIsMadeUp = (d : DescData) (items : ℕ) (place : Place) → All (IsSingleAt d items place) (flaws_at d items place)

-- no flaw stands twice in a place's list
abbrev pub NoneStandsTwice : Type 0
NoneStandsTwice = (d : DescData) (items : ℕ) (place : Place) → AllPairs (λ a b. a ≢ b) (flaws_at d items place)

-- nor does one stand in the lists of two places
abbrev pub PlacesAreApart : Type 0
PlacesAreApart = (d : DescData) (items : ℕ) (place other : Place) (flaw : Flaw)
    → Contains (flaws_at d items place) flaw → Contains (flaws_at d items other) flaw → place ≡ other
