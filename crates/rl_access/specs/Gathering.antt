-- What a predictor has gathered.
use Rattle.std.specs.Prelude.{◌≡◌, ℕ, ◌<◌, ◌==◌, ◌&&◌, not, Bool, true, false, if◌then◌else◌, List, [], ◌∷◌, ◌++◌, length, get_or, slice_index_or, All}
use Rattle.rl_bus.specs.declared.op.BusOp.{BusOp}
use Rattle.rl_model.specs.declared.rows.Item.{Item}
use Rattle.rl_model.specs.declared.rows.Item.TheVariants.{Reg, Mem}
use Rattle.rl_map.specs.Layout.{LayoutData, place_at, words_of}
use Rattle.rl_map.specs.Words.{no_word}
use Rattle.rl_access.specs.declared.predictor.Gathered.{Gathered}

abbrev pub no_words : Gathered
no_words = record { write = false; words = [] }

abbrev pub gathered_at : List Gathered → ℕ → Gathered
gathered_at gathered place = get_or gathered place no_words

-- the predictor was built with the layout: one list for each place, shorter than the place's words
pub record IsPredictorOf (l : LayoutData) (gathered : List Gathered) : Type 0 where
  pub count : length gathered ≡ length l.places
  pub shorter : (p : ℕ) → p < length l.places → length (gathered_at gathered p).words < length (words_of l p 0)

-- no word was gathered of any place
abbrev pub IsNothingGathered : List Gathered → Type 0
IsNothingGathered gathered = All (λ g. g ≡ no_words) gathered

-- ---- one more word of a place

-- the address is that of the place's next word
abbrev pub is_next : LayoutData → ℕ → BusOp → Gathered → Bool
is_next l place op g = (slice_index_or (words_of l place 0) (length g.words) no_word).address == op.address

abbrev pub same_direction : Bool → Bool → Bool
same_direction true b = b
same_direction false b = not b

-- a word of the other direction, or at another address, empties the list
abbrev pub emptied : LayoutData → ℕ → BusOp → Gathered → Gathered
emptied l place op g = if same_direction g.write op.write && is_next l place op g then g else no_words

-- the next word is appended, and any other one dropped
abbrev pub appended : LayoutData → ℕ → BusOp → ℕ → Gathered → Gathered
appended l place op word g =
    if is_next l place op g then record { write = op.write; words = g.words ++ word ∷ [] } else g

abbrev pub gathered_with : LayoutData → ℕ → BusOp → ℕ → Gathered → Gathered
gathered_with l place op word g = appended l place op word (emptied l place op g)

-- ---- while one list may be whole

abbrev pub IsRegister : Item → Type 0
IsRegister (Reg reg) = Unit {0}
IsRegister (Mem mem) = ⊥

pub record IsRegisterPlace (l : LayoutData) (place : ℕ) : Type 0 where
  pub inside : place < length l.places
  pub register : IsRegister (place_at l place).item

-- each list but that of the place is shorter than its place's words
pub record IsGatheredOn (l : LayoutData) (place : ℕ) (gathered : List Gathered) : Type 0 where
  pub count : length gathered ≡ length l.places
  pub others : (p : ℕ)
      → p < length l.places → (p ≡ place → ⊥)
      → length (gathered_at gathered p).words < length (words_of l p 0)
