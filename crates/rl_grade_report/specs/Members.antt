-- How the flaws of one sort are named.
use Rattle.std.specs.Prelude.{ℕ, ◌+◌, ◌-◌, ◌==◌, nat_lt, ◌&&◌, not, Bool, if◌then◌else◌, List, [], ◌∷◌, length, map, flat_map, slice_index, codes, decimal, unwrap_or, bit_xor}
use Rattle.std.specs.Int.Count.{count_trailing_zeros}
use Rattle.std.specs.List.{range_with_len}
use Rattle.rl_policy.specs.declared.policy.TheConstants.{POLICIES}
use Rattle.rl_policy.specs.Names.{name_of}
use Rattle.rl_policy.specs.Numbers.{hex_digits}
use Rattle.rl_model.specs.Rows.{ChipData}
use Rattle.rl_desc.specs.Flaws.{reset_value}
use Rattle.rl_report.specs.Pieces.{joined}
use Rattle.rl_flaw.specs.declared.flaw.Flaw.{Flaw}
use Rattle.rl_flaw.specs.declared.flaw.Flaw.TheVariants.{Stuck, OtherReset, OtherPolicy, Deaf, ErrorRange, ErrorNth}

-- ---- numbers, by their runs

-- the number at a place is one more than the one before it
abbrev pub follows : List ℕ → ℕ → Bool
follows numbers place =
    nat_lt 0 place && nat_lt place (length numbers) && slice_index numbers place == slice_index numbers (place - 1) + 1

-- behind a space where a run begins, behind a dash where a longer one ends, and else not at all
abbrev pub number_text : List ℕ → ℕ → List ℕ
number_text numbers place =
    if not (follows numbers place) then joined (codes " " ∷ decimal (slice_index numbers place) ∷ [])
    else (if not (follows numbers (place + 1)) then joined (codes "-" ∷ decimal (slice_index numbers place) ∷ [])
    else [])

abbrev pub ranges_text : List ℕ → List ℕ
ranges_text numbers = flat_map (number_text numbers) (range_with_len 0 (length numbers))

-- ---- one flaw

-- the lowest bit in which a value of a reset isn't the field's
abbrev pub wrong_bit : ChipData → (field kind value : ℕ) → ℕ
wrong_bit c field kind value = count_trailing_zeros 64 (bit_xor value (unwrap_or (reset_value c field kind) 0))

abbrev pub number_of : ChipData → Flaw → ℕ
number_of c (Stuck field bit value) = bit
number_of c (OtherReset field kind value) = wrong_bit c field kind value
number_of c (ErrorNth nth) = nth
number_of c (OtherPolicy field policy) = 0
number_of c (ErrorRange port from to) = 0
number_of c (Deaf item) = 0

abbrev pub word_text : Flaw → List ℕ
word_text (OtherPolicy field policy) = joined (codes " " ∷ name_of policy ∷ [])
word_text (ErrorRange port from to) = joined (codes " 0x" ∷ hex_digits from ∷ [])
word_text (Stuck field bit value) = []
word_text (OtherReset field kind value) = []
word_text (ErrorNth nth) = []
word_text (Deaf item) = []

-- ---- those of one sort

abbrev pub words_text : List Flaw → List ℕ
words_text flaws = flat_map word_text flaws

-- by name, unless they are all policies but the field's own
abbrev pub policies_text : List Flaw → List ℕ
policies_text flaws =
    if nat_lt (length flaws + 1) (length POLICIES) then words_text flaws
    else joined (codes " all " ∷ decimal (length flaws) ∷ [])

-- bits and items by number, policies by name, addresses; of a deaf item there is no more to tell
abbrev pub members_text : ChipData → (one : Flaw) → List Flaw → List ℕ
members_text c (Stuck field bit value) flaws = ranges_text (map (number_of c) flaws)
members_text c (OtherReset field kind value) flaws = ranges_text (map (number_of c) flaws)
members_text c (ErrorNth nth) flaws = ranges_text (map (number_of c) flaws)
members_text c (OtherPolicy field policy) flaws = policies_text flaws
members_text c (ErrorRange port from to) flaws = words_text flaws
members_text c (Deaf item) flaws = words_text flaws
