-- The words of a memory's locations: those of the first, moved.
use Rattle.std.specs.Prelude.{◌≡◌, ℕ, ◌+◌, ◌*◌, ◌<◌, List, [], length, map, slice_index_or}
use Rattle.rl_map.specs.declared.path.Level.{Level}
use Rattle.rl_map.specs.declared.seat.Location.{Location}
use Rattle.rl_map.specs.declared.word.Word.{Word}
use Rattle.rl_map.specs.declared.rows.MapRow.{MapRow}
use Rattle.rl_map.specs.declared.rows.PortRow.{PortRow}
use Rattle.rl_map.specs.declared.rows.PlaceRow.{PlaceRow}
use Rattle.rl_map.specs.declared.kept.PlaceWords.{PlaceWords}
use Rattle.rl_map.specs.Access.{IsAligned}
use Rattle.rl_map.specs.Seat.{access_of, seat_of}
use Rattle.rl_map.specs.Words.{item_words}
use Rattle.rl_map.specs.Layout.{LayoutData, no_place, location_of, words_of, IsLocation}
use Rattle.rl_map.specs.Building.{path_in, port_for}

-- a word, and a list of words, `by` addresses further
abbrev pub further : ℕ → Word → Word
further by w = record w { address = w.address + by }

abbrev pub all_further : ℕ → List Word → List Word
all_further by words = map (further by) words

-- the words of location `index` by those that are kept of its place
abbrev pub kept_at : PlaceWords → ℕ → List Word
kept_at kept index = all_further (index * kept.step) kept.words

-- where the lowest byte of a location stands
abbrev pub address_of : List Level → ℕ → Location → ℕ → ℕ
address_of path base item index = (seat_of path base (record item { index = index }) 0).address

-- on its way each byte of each location stands at a multiple of its map's width, where that is asked
abbrev pub AreStraight : List Level → Location → (size : ℕ) → Type 0
AreStraight path item size =
    (index byte : ℕ)
    → index < size → byte < item.bytes
    → IsAligned (access_of (record item { index = index }) byte) path

-- the words of each location of an item are the kept ones
abbrev pub AreLocations : List Level → ℕ → Location → (size : ℕ) → PlaceWords → Type 0
AreLocations path base item size kept =
    (index : ℕ) → index < size → item_words path base (record item { index = index }) ≡ kept_at kept index

abbrev pub no_words : PlaceWords
no_words = record { words = []; step = 0 }

-- what is kept of places by their maps and ports
pub record AreWordsOf (maps : List MapRow) (ports : List PortRow) (places : List PlaceRow)
    (kept : List PlaceWords) : Type 0 where
  pub long : length kept ≡ length places
  pub each : (place : ℕ) → place < length places
      → let row = slice_index_or places place no_place in
      AreLocations (path_in maps row) (port_for ports row).base (location_of row 0) row.size
      (slice_index_or kept place no_words)

-- what a layout keeps of its places' words
pub record AreKept (l : LayoutData) (kept : List PlaceWords) : Type 0 where
  pub long : length kept ≡ length l.places
  pub words : (place index : ℕ)
      → IsLocation l place index
      → words_of l place index ≡ kept_at (slice_index_or kept place no_words) index
