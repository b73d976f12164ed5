-- Which lines say nothing.
use Rattle.std.proofs.Common.{◌≡◌, ◌≤◌, ℕ, List, Bool, true, false, cond, refl, drop, length, codes}
use Rattle.std.specs.Prelude.{not, ◌||◌, ◌==◌}
use Rattle.std.specs.List.{position_or_len}
use Rattle.std.proofs.lemmas.List.Sums.{prefix_len-le-length}
use Rattle.std.specs.Str.{bytes_eq}
use Rattle.rl_policy.specs.declared.number.NumberText.{NumberText}
use Rattle.rl_policy.specs.declared.number.NumberText.TheVariants as text
use Rattle.rl_policy.specs.Numbers.{number_of}
use Rattle.rl_link.specs.declared.answer.Said.{Said}
use Rattle.rl_link.specs.declared.answer.Said.TheVariants as says
use Rattle.rl_link.specs.Answers.{bare, first_word, is_passed, is_nothing, is_unknown_text, said_in, value_said, word_said}

pub within : (p : ℕ → Bool) (xs : List ℕ) → position_or_len p xs ≤ length xs
within p xs = prefix_len-le-length (λ x. not (p x)) xs

word_by : (w : NumberText) (unknown : Bool) → is_nothing (word_said w unknown) ≡ false
word_by (text.Value n) unknown = refl
word_by text.Bad true = refl
word_by text.Bad false = refl
word_by text.TooLarge true = refl
word_by text.TooLarge false = refl

silent_by : (ok error none sole : Bool) (value : Said) → is_nothing value ≡ false
    → is_nothing (cond ok (cond sole says.Done value) (cond error (cond sole says.Error says.Unclear) (cond none (cond sole says.Unable says.Unclear) says.Nothing)))
    ≡ not (ok || (error || none))
silent_by true error none true value h = refl
silent_by true error none false value h = h
silent_by false true none true value h = refl
silent_by false true none false value h = refl
silent_by false false true true value h = refl
silent_by false false true false value h = refl
silent_by false false false sole value h = refl

-- a line says nothing exactly where it is passed over
pub silent : (line : List ℕ) → is_nothing (said_in line) ≡ is_passed (bare line)
unfolding said_in
silent line =
    let word = first_word (bare line) in
    let rest = bare (drop (length word) (bare line)) in
    silent_by (bytes_eq word (codes "ok")) (bytes_eq word (codes "error")) (bytes_eq word (codes "none")) (length rest == 0) (value_said rest)
    (word_by (number_of rest) (is_unknown_text rest))
