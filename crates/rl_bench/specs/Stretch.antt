-- The part of a list that passes a test, and words by their addresses.
use Rattle.std.specs.Prelude.{◌≡◌, ℕ, ◌+◌, ◌*◌, ◌^◌, ◌<◌, ◌≤◌, Bool, true, false, List, length, slice_index_or, All}
use Rattle.std.specs.List.Sorted.{IsNonDecreasingBy}
use Rattle.rl_bus.specs.declared.table.WordRow.{WordRow}
use Rattle.rl_bus.specs.Setup.{stands_at, stands_for}
use Rattle.rl_map.specs.Layout.{key_of}
use Rattle.rl_bench.specs.declared.find.Stretch.{Stretch}

-- what passes stands from i to before j, and nothing else does
pub record IsStretch {X : Type 0} (p : X → Bool) (xs : List X) (i j : ℕ) : Type 0 where
  pub order : i ≤ j
  pub within : j ≤ length xs
  pub inside : (k : ℕ) (d : X) → i ≤ k → k < j → p (slice_index_or xs k d) ≡ true
  pub before : (k : ℕ) (d : X) → k < i → p (slice_index_or xs k d) ≡ false
  pub behind : (k : ℕ) (d : X) → j ≤ k → k < length xs → p (slice_index_or xs k d) ≡ false

-- ---- words by port and address

-- the words stand in this order
abbrev pub AreOrdered : List WordRow → Type 0
AreOrdered words = IsNonDecreasingBy key_of words

-- the words before n stand before an address, and those from n on don't
abbrev pub AllBefore : List WordRow → (n port address : ℕ) → Type 0
AllBefore words n port address =
    (k : ℕ) (d : WordRow) → k < n → key_of (slice_index_or words k d) < port * 2 ^ 64 + address

abbrev pub NoneBefore : List WordRow → (n port address : ℕ) → Type 0
NoneBefore words n port address =
    (k : ℕ) (d : WordRow) → n ≤ k → k < length words → port * 2 ^ 64 + address ≤ key_of (slice_index_or words k d)

-- a word stands at the address of this one
abbrev pub stands_beside : WordRow → WordRow → Bool
stands_beside w = stands_at w.port w.address

-- whether a word lets items of a direction through, which its address doesn't matter to
abbrev pub LetsThrough : WordRow → (write through : Bool) → Type 0
LetsThrough w write through =
    (port address : ℕ) → stands_at port address w ≡ true → through ≡ stands_for port address write w

-- ---- hints

-- nothing, or the words at the address of the first of them
abbrev pub IsHint : List WordRow → Stretch → Type 0
IsHint words s =
    (d : WordRow) → s.first < s.end → IsStretch (stands_beside (slice_index_or words s.first d)) words s.first s.end

-- hints stay hints, where these are the words at an address of a port
abbrev pub StayHints : (old new : List Stretch) → (port address : ℕ) → Stretch → Type 0
StayHints old new port address at =
    (words : List WordRow) → IsStretch (stands_at port address) words at.first at.end
    → All (IsHint words) old → All (IsHint words) new
