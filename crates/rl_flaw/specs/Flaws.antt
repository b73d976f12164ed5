-- The flaws of a device as rows of numbers, each sort in the order of the description.
use Rattle.std.specs.Prelude.{ℕ, ◌^◌, ◌<◌, List, [], ◌∷◌, ◌++◌, length, All, Option, Some, None, option_map, unwrap_or, slice_get, filter_map, sum_by}
use Rattle.rl_model.specs.declared.rows.Item.{Item}
use Rattle.rl_model.specs.declared.rows.Item.TheVariants as item
use Rattle.rl_model.specs.Rows.{ChipData}
use Rattle.rl_model.specs.Chip.{HasItem}
use Rattle.rl_bus.specs.declared.table.PolicyRow.{PolicyRow}
use Rattle.rl_bus.specs.declared.table.ResetRow.{ResetRow}
use Rattle.rl_bus.specs.declared.table.StuckRow.{StuckRow}
use Rattle.rl_bus.specs.declared.table.RangeRow.{RangeRow}
use Rattle.rl_bus.specs.declared.table.ItemRow.{ItemRow}
use Rattle.rl_bus.specs.declared.table.ItemRow.TheVariants as row
use Rattle.rl_bus.specs.Setup.{Flaws}
use Rattle.rl_bus.specs.State.{State, first_state}
use Rattle.rl_map.specs.Layout.{LayoutData}
use Rattle.rl_map.specs.Tables.{setup_of}
use Rattle.rl_flaw.specs.declared.flaw.Flaw.{Flaw}
use Rattle.rl_flaw.specs.declared.flaw.Flaw.TheVariants.{OtherPolicy, OtherReset, Stuck, ErrorRange, ErrorNth, Deaf}

abbrev pub policy_row : Flaw → Option PolicyRow
policy_row (OtherPolicy f p) = Some (record { field = f; policy = p })
policy_row _ = None

abbrev pub reset_row : Flaw → Option ResetRow
reset_row (OtherReset f k v) = Some (record { field = f; kind = k; value = v })
reset_row _ = None

abbrev pub stuck_row : Flaw → Option StuckRow
stuck_row (Stuck f b v) = Some (record { field = f; bit = b; value = v })
stuck_row _ = None

abbrev pub range_row : Flaw → Option RangeRow
range_row (ErrorRange p a b) = Some (record { port = p; from = a; to = b })
range_row _ = None

abbrev pub nth_of : Flaw → Option ℕ
nth_of (ErrorNth n) = Some n
nth_of _ = None

abbrev pub item_row : Item → ItemRow
item_row (item.Reg r) = row.Reg r
item_row (item.Mem m) = row.Mem m

abbrev pub deaf_row : Flaw → Option ItemRow
deaf_row (Deaf i) = Some (item_row i)
deaf_row _ = None

-- The flaws by their sorts, which are this project's own.
abbrev pub flaws_of : List Flaw → Flaws
flaws_of flaws = record {
  policies = filter_map policy_row flaws;
  resets = filter_map reset_row flaws;
  stuck = filter_map stuck_row flaws;
  ranges = filter_map range_row flaws;
  nths = filter_map nth_of flaws;
  deaf = filter_map deaf_row flaws;
}

-- the rows with that of one flaw more
abbrev pub with_flaw : Flaws → Flaw → Flaws
with_flaw t (OtherPolicy f p) = record t { policies = t.policies ++ record { field = f; policy = p } ∷ [] }
with_flaw t (OtherReset f k v) = record t { resets = t.resets ++ record { field = f; kind = k; value = v } ∷ [] }
with_flaw t (Stuck f b v) = record t { stuck = t.stuck ++ record { field = f; bit = b; value = v } ∷ [] }
with_flaw t (ErrorRange p a b) = record t { ranges = t.ranges ++ record { port = p; from = a; to = b } ∷ [] }
with_flaw t (ErrorNth n) = record t { nths = t.nths ++ n ∷ [] }
with_flaw t (Deaf i) = record t { deaf = t.deaf ++ item_row i ∷ [] }

-- ---- what a flaw names is there

abbrev pub width_of : ChipData → ℕ → ℕ
width_of chip f = unwrap_or (option_map (λ s. s.shape.width) (slice_get chip.fields f)) 0

abbrev pub IsFlawOf : ChipData → LayoutData → Flaw → Type 0
IsFlawOf chip l (OtherPolicy f p) = f < length chip.fields
IsFlawOf chip l (OtherReset f k v) = (f < length chip.fields) × (k < length chip.kinds) × (v < 2 ^ width_of chip f)
IsFlawOf chip l (Stuck f b v) = (f < length chip.fields) × (b < width_of chip f)
IsFlawOf chip l (ErrorRange p a b) = p < length l.ports
IsFlawOf chip l (ErrorNth n) = Unit {0}
IsFlawOf chip l (Deaf i) = HasItem chip i

abbrev pub AreFlawsOf : ChipData → LayoutData → List Flaw → Type 0
AreFlawsOf chip l flaws = All (IsFlawOf chip l) flaws

-- ---- the device with these flaws

abbrev pub locations_of : ChipData → ℕ
locations_of chip = sum_by (λ m. m.size) chip.mems

-- after a hard reset, with no item so far
abbrev pub first_of : ChipData → LayoutData → List Flaw → State
first_of chip l flaws = first_state (setup_of chip l (flaws_of flaws)) (locations_of chip)
