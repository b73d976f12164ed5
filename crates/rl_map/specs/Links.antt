-- The places of each item, linked backwards.
use Rattle.std.specs.Prelude.{◌≡◌, ℕ, ◌+◌, ◌-◌, ◌*◌, ◌<◌, ◌≤◌, true, false, List, length, slice_index_or}
use Rattle.rl_model.specs.declared.rows.Item.{Item}
use Rattle.rl_model.specs.declared.rows.Item.TheVariants as item
use Rattle.rl_map.specs.declared.rows.PlaceRow.{PlaceRow}
use Rattle.rl_map.specs.Layout.{no_place, same_item}

-- registers and memories in turn
abbrev pub number_of_item : Item → ℕ
number_of_item (item.Reg r) = 2 * r
number_of_item (item.Mem m) = 2 * m + 1

-- `above` is the number above the last of the first `n` places that has the item, and 0 if none has
pub record IsLast (places : List PlaceRow) (n : ℕ) (item : Item) (above : ℕ) : Type 0 where
  pub most : above ≤ n
  pub has : 0 < above → same_item (slice_index_or places (above - 1) no_place).item item ≡ true
  pub none : (p : ℕ) → above ≤ p → p < n → same_item (slice_index_or places p no_place).item item ≡ false

-- the last place of each item, and before each place the last of the same item
pub record AreLinked (places : List PlaceRow) (lasts before : List ℕ) : Type 0 where
  pub long : length before ≡ length places
  pub each_item : (item : Item) → IsLast places (length places) item (slice_index_or lasts (number_of_item item) 0)
  pub each_place : (p : ℕ)
      → p < length places
      → IsLast places p (slice_index_or places p no_place).item (slice_index_or before p 0)
