-- Numbers as text.
use Rattle.std.specs.Prelude.{ℕ, ◌-◌, ◌^◌, ◌/◌, ◌%◌, ◌==◌, Bool, ◌&&◌, ◌||◌, if◌then◌else◌, List, [], ◌∷◌, length, drop, map, nat_lt, slice_index, Option, Some, None}
use Rattle.std.specs.List.{list_all}
use Rattle.std.specs.Char.{digit_char, is_digit}
use Rattle.std.specs.Int.Digits.{digits_of}
use Rattle.std.specs.Str.Parse.{digits_value}
use Rattle.rl_policy.specs.declared.number.NumberText.{NumberText}
use Rattle.rl_policy.specs.declared.number.NumberText.TheVariants.{Value, Bad, TooLarge}

-- place k of the digits that write n in hexadecimal
abbrev pub hex_digit_at : ℕ → ℕ → ℕ → ℕ
hex_digit_at digits n k = digit_char (n / 16 ^ (digits - 1 - k) % 16)

-- one digit or more, and nothing else
abbrev pub is_numeral : ℕ → List ℕ → Bool
is_numeral radix ds = nat_lt 0 (length ds) && list_all (λ c. is_digit c radix) ds

-- a number where it fits 64 bits
abbrev pub fitting_option : ℕ → Option ℕ
fitting_option n = if nat_lt n (2 ^ 64) then Some n else None

-- what a text says that writes this number: it must fit 64 bits
abbrev pub fitting : ℕ → NumberText
fitting n = if nat_lt n (2 ^ 64) then Value n else TooLarge

-- what digits in the radix write
abbrev pub numeral_of : ℕ → List ℕ → NumberText
numeral_of radix ds = if is_numeral radix ds then fitting (digits_value radix ds) else Bad

-- the text begins with 0x or 0X
abbrev pub has_hex_prefix : List ℕ → Bool
has_hex_prefix text =
    nat_lt 1 (length text) && slice_index text 0 == 48 && (slice_index text 1 == 120 || slice_index text 1 == 88)

-- what a text writes: decimal digits, or 0x or 0X and hexadecimal digits
abbrev pub number_of : List ℕ → NumberText
number_of text = if has_hex_prefix text then numeral_of 16 (drop 2 text) else numeral_of 10 text

-- the hexadecimal digits of a number, with no zero in front
unfoldable pub hex_digits : ℕ → List ℕ
hex_digits n = if n == 0 then 48 ∷ [] else map digit_char (digits_of 16 n)

-- the canonical spelling of a number: 0x and its digits
abbrev pub spelled : ℕ → List ℕ
spelled n = 48 ∷ 120 ∷ hex_digits n
