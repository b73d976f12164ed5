-- A description with one flaw alone, and the flaws of a place.
use Rattle.std.specs.Prelude.{ℕ, ◌<◌, List, [], ◌∷◌, length}
use Rattle.rl_flaw.specs.declared.flaw.Flaw.{Flaw}
use Rattle.rl_desc.specs.Data.{DescData}
use Rattle.rl_model.specs.Chip.{HasItem}
use Rattle.rl_model.specs.Rows.{ChipData}
use Rattle.rl_policy.specs.declared.policy.TheConstants.{POLICIES}
use Rattle.rl_grade.specs.declared.place.Place.{Place}
use Rattle.rl_grade.specs.declared.place.Place.TheVariants.{OfItem, OfField, OfSession}
use Rattle.rl_grade.specs.Flaws.{field_flaws, item_flaws, session_flaws}

-- a description with this flaw and no other
abbrev pub with_flaw : DescData → Flaw → DescData
with_flaw d flaw = record { chip = d.chip; layout = d.layout; flaws = flaw ∷ [] }

-- what a place names is there
abbrev pub IsPlaceIn : ChipData → Place → Type 0
IsPlaceIn c (OfItem i) = HasItem c i
IsPlaceIn c (OfField f) = f < length c.fields
IsPlaceIn c OfSession = Unit {0}

-- the single flaws of a place, where the session sends so many bus items
abbrev pub flaws_at : DescData → (items : ℕ) → Place → List Flaw
flaws_at d items (OfItem i) = item_flaws d.chip d.layout i
flaws_at d items (OfField f) = field_flaws d.chip f POLICIES
flaws_at d items OfSession = session_flaws items
