-- Texts that differ, as lists of bytes.
use Rattle.std.specs.Prelude.{◌≡◌, ℕ, Bool, List, [], ◌∷◌, ◌++◌, if◌then◌else◌, map, slice_get, Some, Vec}
use Rattle.std.specs.Str.{bytes_eq}
use Rattle.std.specs.List.{IsDistinct, list_any, position_or_len}

-- what stands in vectors of bytes
abbrev pub texts : {A : Type 0} → List (Vec ℕ A) → List (List ℕ)
texts vectors = map (λ v. v.items) vectors

-- no two are the same text
abbrev pub AreDistinct : List (List ℕ) → Type 0
AreDistinct texts = IsDistinct bytes_eq texts

abbrev pub is_among : List ℕ → List (List ℕ) → Bool
is_among text texts = list_any (bytes_eq text) texts

-- a text goes to the end, unless it is there
abbrev pub with_text : List (List ℕ) → List ℕ → List (List ℕ)
with_text texts text = if is_among text texts then texts else texts ++ text ∷ []

-- the number that a text has, or gets when it is added
abbrev pub number_in : List (List ℕ) → List ℕ → ℕ
number_in texts text = position_or_len (bytes_eq text) texts

-- no text stands at two places
abbrev pub AllDiffer : List (List ℕ) → Type 0
AllDiffer texts = (i j : ℕ) (text : List ℕ) → slice_get texts i ≡ Some text → slice_get texts j ≡ Some text → i ≡ j
