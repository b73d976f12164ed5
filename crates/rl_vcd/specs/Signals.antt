-- The value changes of a signal (IEEE 1364, Value Change Dump).
use Rattle.std.specs.Prelude.{ℕ, zero, suc, List, [], ◌∷◌, ◌++◌, ◌+◌, ◌/◌, ◌%◌, ◌^◌, ◌==◌, Bool, true, false, if◌then◌else◌, codes, decimal}

-- these pieces, one after another; a proof goes piece by piece, so it stays closed
unfoldable pub joined : List (List ℕ) → List ℕ
joined [] = []
joined (piece ∷ pieces) = piece ++ joined pieces

-- so many binary digits of a number, the highest first
abbrev pub binary : (digits n : ℕ) → List ℕ
binary zero n = []
binary (suc digits) n = (48 + n / 2 ^ digits % 2) ∷ binary digits n

-- a signal: its letter and the number of its bus
abbrev pub name_of : (letter bus : ℕ) → List ℕ
name_of letter bus = letter ∷ decimal bus

abbrev pub bit_digit : Bool → List ℕ
bit_digit true = codes "1"
bit_digit false = codes "0"

abbrev pub bit_text : (letter bus : ℕ) (value : Bool) → List ℕ
bit_text letter bus value = joined (bit_digit value ∷ name_of letter bus ∷ codes "\n" ∷ [])

abbrev pub word_text : (letter bus digits value : ℕ) → List ℕ
word_text letter bus digits value =
    joined (codes "b" ∷ binary digits value ∷ codes " " ∷ name_of letter bus ∷ codes "\n" ∷ [])

-- only what changes is written
abbrev pub bit_change : (letter bus : ℕ) (before after : Bool) → List ℕ
bit_change letter bus false false = []
bit_change letter bus false true = bit_text letter bus true
bit_change letter bus true false = bit_text letter bus false
bit_change letter bus true true = []

abbrev pub word_change : (letter bus digits before after : ℕ) → List ℕ
word_change letter bus digits before after = if before == after then [] else word_text letter bus digits after
