-- What a line of the peer says, and what it answers.
use Rattle.std.specs.Prelude.{ℕ, ◌-◌, ◌^◌, ◌==◌, ◌&&◌, ◌||◌, not, Bool, true, false, if◌then◌else◌, List, [], ◌∷◌, codes, length, take, drop, nat_lt, Result, Ok, Err}
use Rattle.std.specs.List.{prefix_len, suffix_len, position_or_len, list_any, list_all}
use Rattle.std.specs.Char.{is_ascii_whitespace, is_digit}
use Rattle.std.specs.Str.{bytes_eq}
use Rattle.rl_policy.specs.declared.number.NumberText.{NumberText}
use Rattle.rl_policy.specs.declared.number.NumberText.TheVariants as text
use Rattle.rl_policy.specs.Numbers.{number_of, has_hex_prefix}
use Rattle.rl_bus.specs.declared.op.Answer.{Answer}
use Rattle.rl_link.specs.declared.answer.Said.{Said}
use Rattle.rl_link.specs.declared.answer.Said.TheVariants as says
use Rattle.rl_link.specs.declared.answer.Cause.{Cause}
use Rattle.rl_link.specs.declared.answer.Cause.TheVariants as cause

-- ---- a line

-- without the white space at its end
abbrev pub bare_end : List ℕ → List ℕ
bare_end text = take (length text - suffix_len is_ascii_whitespace text) text

-- without the white space at both ends
abbrev pub bare : List ℕ → List ℕ
bare line = bare_end (drop (prefix_len is_ascii_whitespace line) line)

-- the bytes before the first white space
abbrev pub first_word : List ℕ → List ℕ
first_word text = take (position_or_len is_ascii_whitespace text) text

-- a digit as simulators print it where a bit is unknown (`x`), or isn't driven (`z`)
abbrev pub is_unknown_digit : ℕ → Bool
is_unknown_digit c = c == 120 || (c == 88 || (c == 122 || c == 90))

abbrev pub is_any_digit : ℕ → Bool
is_any_digit c = is_unknown_digit c || is_digit c 16

-- one digit at least is such a one, and the others are hexadecimal
abbrev pub is_unknown_numeral : List ℕ → Bool
is_unknown_numeral ds = list_any is_unknown_digit ds && list_all is_any_digit ds

abbrev pub digits_in : List ℕ → List ℕ
digits_in text = if has_hex_prefix text then drop 2 text else text

abbrev pub is_unknown_text : List ℕ → Bool
is_unknown_text text = is_unknown_numeral (digits_in text)

abbrev pub word_said : NumberText → (unknown : Bool) → Said
word_said (text.Value word) unknown = says.Word word
word_said text.Bad unknown = if unknown then says.Unknown else says.Unclear
word_said text.TooLarge unknown = if unknown then says.Unknown else says.Unclear

-- behind `ok`
abbrev pub value_said : List ℕ → Said
value_said text = word_said (number_of text) (is_unknown_text text)

-- nothing may stand behind the word
abbrev pub sole : Said → (rest : List ℕ) → Said
sole said rest = if length rest == 0 then said else says.Unclear

-- a word of an answer, and what stands behind it; any other word says nothing
abbrev pub said_behind : (word rest : List ℕ) → Said
said_behind word rest =
    if bytes_eq word (codes "ok") then (if length rest == 0 then says.Done else value_said rest)
    else if bytes_eq word (codes "error") then sole says.Error rest
    else if bytes_eq word (codes "none") then sole says.Unable rest
    else says.Nothing

abbrev pub said_by : List ℕ → Said
said_by text = said_behind (first_word text) (bare (drop (length (first_word text)) text))

-- it begins with none of these words
abbrev pub is_passed : List ℕ → Bool
is_passed text =
    not (bytes_eq (first_word text) (codes "ok")
    || (bytes_eq (first_word text) (codes "error") || bytes_eq (first_word text) (codes "none")))

-- what a line says
unfoldable pub said_in : List ℕ → Said
said_in line = said_by (bare line)

abbrev pub is_nothing : Said → Bool
is_nothing says.Nothing = true
is_nothing says.Done = false
is_nothing (says.Word word) = false
is_nothing says.Unknown = false
is_nothing says.Error = false
is_nothing says.Unable = false
is_nothing says.Unclear = false

abbrev pub is_unknown : Said → Bool
is_unknown says.Unknown = true
is_unknown _ = false

-- ---- what it answers

abbrev pub failure : Answer
failure = record { word = 0; failed = true }

abbrev pub success : ℕ → Answer
success word = record { word = word; failed = false }

-- to a write
abbrev pub written_by : Said → Result Answer Cause
written_by says.Done = Ok (success 0)
written_by says.Error = Ok failure
written_by says.Unable = Ok failure
written_by says.Nothing = Err cause.Unclear
written_by (says.Word word) = Err cause.Unclear
written_by says.Unknown = Err cause.Unclear
written_by says.Unclear = Err cause.Unclear

-- to a read on a bus of this width
abbrev pub read_by : ℕ → Said → Result Answer Cause
read_by bytes (says.Word word) = if nat_lt word (256 ^ bytes) then Ok (success word) else Err cause.TooWide
read_by bytes says.Unknown = Ok failure
read_by bytes says.Error = Ok failure
read_by bytes says.Unable = Ok failure
read_by bytes says.Nothing = Err cause.Unclear
read_by bytes says.Done = Err cause.Unclear
read_by bytes says.Unclear = Err cause.Unclear

-- to a transfer
abbrev pub answer_to : (write : Bool) (bytes : ℕ) → Said → Result Answer Cause
answer_to true bytes said = written_by said
answer_to false bytes said = read_by bytes said

-- to anything else: whether it was done
abbrev pub done_by : Said → Result Bool Cause
done_by says.Done = Ok true
done_by says.Error = Ok false
done_by says.Unable = Ok false
done_by says.Nothing = Err cause.Unclear
done_by (says.Word word) = Err cause.Unclear
done_by says.Unknown = Err cause.Unclear
done_by says.Unclear = Err cause.Unclear
