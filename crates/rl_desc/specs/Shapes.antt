-- What a key may hold: the value, or why it is refused.
use Rattle.std.specs.Prelude.{ℕ, pos, negsuc, Bool, true, ◌&&◌, ◌||◌, is_some, if◌then◌else◌, List, [], ◌∷◌, codes, Option, Some, None, Result, Ok, Err}
use Rattle.std.specs.Int.RustNames.{bit_or}
use Rattle.toml.specs.Data.{Data, string, integer, boolean, array, Items, no_items, item, Members, no_members, member, as_str, as_integer, as_table}
use Rattle.rl_desc.specs.declared.key.Key.{Key}
use Rattle.rl_desc.specs.declared.fault.DescCause.{DescCause}
use Rattle.rl_desc.specs.declared.fault.DescCause.TheVariants.{WrongType, BadValue}
use Rattle.rl_model.specs.declared.parts.ResetPart.{ResetPart}
use Rattle.rl_model.specs.declared.sets.Skip.{Skip}
use Rattle.rl_policy.specs.declared.number.NumberText.{NumberText}
use Rattle.rl_policy.specs.declared.number.NumberText.TheVariants.{Value, Bad, TooLarge}
use Rattle.rl_policy.specs.Numbers.{number_of}
use Rattle.rl_desc.specs.Words.{exclusion_named, skip}

abbrev pub Shape : Type 0 → Type 0
Shape X = Key → Data → Result X DescCause

infixl 10 ◌>>=◌
abbrev pub ◌>>=◌ : {A B : Type 0} → Result A DescCause → (A → Result B DescCause) → Result B DescCause
(Ok x) >>= f = f x
(Err c) >>= f = Err c

-- a value that is there, or else a bad value
abbrev pub or_bad : {X : Type 0} → Key → Option X → Result X DescCause
or_bad k None = Err (BadValue k)
or_bad k (Some x) = Ok x

abbrev pub text : Shape (List ℕ)
text k (string s) = Ok s
text k _ = Err (WrongType k)

abbrev pub truth : Shape Bool
truth k (boolean b) = Ok b
truth k _ = Err (WrongType k)

-- a number that a text writes, where it fits 64 bits
abbrev pub fitting : Key → NumberText → Result ℕ DescCause
fitting k (Value n) = Ok n
fitting k Bad = Err (BadValue k)
fitting k TooLarge = Err (BadValue k)

-- an integer that isn't negative, or a text that writes a number
unfoldable pub number : Shape ℕ
number k (integer (pos n)) = Ok n
number k (integer (negsuc n)) = Err (BadValue k)
number k (string s) = fitting k (number_of s)
number k _ = Err (WrongType k)

abbrev pub word : {W : Type 0} → (List ℕ → Option W) → Shape W
word named k (string s) = or_bad k (named s)
word named k _ = Err (WrongType k)

-- the tables among the items
abbrev pub with_table : Option Members → List Members → List Members
with_table None rows = rows
with_table (Some ms) rows = ms ∷ rows

abbrev pub tables_of : Items → List Members
tables_of no_items = []
tables_of (item d ds) = with_table (as_table d) (tables_of ds)

abbrev pub are_tables : Items → Bool
are_tables no_items = true
are_tables (item d ds) = is_some (as_table d) && are_tables ds

abbrev pub tables : Shape (List Members)
tables k (array ds) = if are_tables ds then Ok (tables_of ds) else Err (WrongType k)
tables k _ = Err (WrongType k)

abbrev pub are_texts : Items → Bool
are_texts no_items = true
are_texts (item d ds) = is_some (as_str d) && are_texts ds

-- the exclusions of a list of texts, with those before them
abbrev pub excluded : Key → Skip → Items → Result Skip DescCause
excluded k before no_items = Ok before
excluded k before (item d ds) = word exclusion_named k d >>= λ e. excluded k (skip (bit_or before.bits e.bits)) ds

abbrev pub exclusions : Shape Skip
exclusions k (array ds) = if are_texts ds then excluded k (skip 0) ds else Err (WrongType k)
exclusions k _ = Err (WrongType k)

-- the values of a reset: one for the kind HARD, or one for each kind
abbrev pub may_be_number : Data → Bool
may_be_number d = is_some (as_integer d) || is_some (as_str d)

abbrev pub may_be_numbers : Members → Bool
may_be_numbers no_members = true
may_be_numbers (member name d ms) = may_be_number d && may_be_numbers ms

abbrev pub kinds : Key → Members → Result (List ResetPart) DescCause
kinds k no_members = Ok []
kinds k (member name d ms) = number k d >>= λ n. kinds k ms >>= λ rest. Ok (record { kind = name; value = n } ∷ rest)

abbrev pub hard_reset : Shape (List ResetPart)
hard_reset k d = number k d >>= λ n. Ok (record { kind = codes "HARD"; value = n } ∷ [])

abbrev pub kinds_or_hard : Key → Data → Option Members → Result (List ResetPart) DescCause
kinds_or_hard k d None = hard_reset k d
kinds_or_hard k d (Some ms) = if may_be_numbers ms then kinds k ms else Err (WrongType k)

abbrev pub resets : Shape (List ResetPart)
resets k d = kinds_or_hard k d (as_table d)
