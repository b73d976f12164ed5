-- A text tested by chunks: of 16 bytes, where it is known that the last 16 pass, and of 8 up to the first that passes.
use Rattle.std.proofs.Common.{◌≡◌, ℕ, ◌+◌, ◌-◌, ◌<◌, ◌≤◌, Bool, true, false, ◌&&◌, not, eqb, cond, List, length, take, drop, refl, sym, ap, ◌∙◌, arith, length-drop}
use Rattle.std.specs.List.{list_all, position_or_len}
use Rattle.std.proofs.lemmas.List.{take-append-drop, drop-drop, length-take-le}
use Rattle.std.proofs.lemmas.List.Folds.{list_all-append, prefix_len-append}
use Rattle.std.proofs.lemmas.List.Sums.{prefix_len-le-length}
use Rattle.std.proofs.lemmas.Bool.{cond-true, cond-false, eq-eqb, ne_eqb}
use Rattle.rl_script.specs.Reading.{is_ascii, AreAscii}
use Rattle.rl_script.proofs.WordLemmas.{ascii_behind}

in_two : (k : ℕ) (xs : List ℕ) → list_all is_ascii xs ≡ (list_all is_ascii (take k xs) && list_all is_ascii (drop k xs))
in_two k xs = ap (list_all is_ascii) (sym (take-append-drop k xs)) ∙ list_all-append is_ascii (take k xs) (drop k xs)

pub chunk_fails : (k : ℕ) (xs : List ℕ) → list_all is_ascii (take k xs) ≡ false → list_all is_ascii xs ≡ false
chunk_fails k xs h = in_two k xs ∙ ap (λ (b : Bool). b && list_all is_ascii (drop k xs)) h

pub chunk_passes : (k : ℕ) (xs : List ℕ) → list_all is_ascii (take k xs) ≡ true → list_all is_ascii (drop k xs) ≡ list_all is_ascii xs
chunk_passes k xs h = sym (in_two k xs ∙ ap (λ (b : Bool). b && list_all is_ascii (drop k xs)) h)

-- the last 16 bytes, or all where there are fewer
abbrev pub EndsAscii : List ℕ → Type 0
EndsAscii xs = AreAscii (drop (length xs - 16) xs)

pub last_kept : (xs : List ℕ) → EndsAscii xs → EndsAscii (drop 16 xs)
last_kept xs h =
    let n = length xs in
    let j = 16 + (n - 16 - 16) - (n - 16) in
    let same : n - 16 + j ≡ 16 + (n - 16 - 16) = omega arith in
    let e : drop (n - 16 - 16) (drop 16 xs) ≡ drop j (drop (n - 16) xs) = drop-drop (n - 16 - 16) 16 xs ∙ ap (λ (k : ℕ). drop k xs) (sym same) ∙ sym (drop-drop j (n - 16) xs) in
    rw (length-drop 16 xs, e) (ascii_behind j (drop (n - 16) xs) h)

pub last_fails : (xs : List ℕ) (k : ℕ) → list_all is_ascii (drop k xs) ≡ false → list_all is_ascii xs ≡ false
last_fails xs k h = in_two k xs ∙ ap (λ (b : Bool). list_all is_ascii (take k xs) && b) h ∙ no (list_all is_ascii (take k xs))
  where
    no : (b : Bool) → (b && false) ≡ false
    no true = refl
    no false = refl

-- ---- the first byte that passes, in a text that is cut in two

place_in_two : (p : ℕ → Bool) (k : ℕ) (xs : List ℕ)
    → position_or_len p xs ≡ cond (eqb (position_or_len p (take k xs)) (length (take k xs))) (length (take k xs) + position_or_len p (drop k xs)) (position_or_len p (take k xs))
place_in_two p k xs =
    ap (position_or_len p) (sym (take-append-drop k xs)) ∙ prefix_len-append (λ x. not (p x)) (take k xs) (drop k xs)

pub place_in_front : (p : ℕ → Bool) (k : ℕ) (xs : List ℕ) → position_or_len p (take k xs) < length (take k xs) → position_or_len p xs ≡ position_or_len p (take k xs)
place_in_front p k xs lt =
    let short : eqb (position_or_len p (take k xs)) (length (take k xs)) ≡ false = ne_eqb (position_or_len p (take k xs)) (length (take k xs)) (λ e. omega (arith, e)) in
    place_in_two p k xs ∙ cond-false _ _ _ short

pub place_behind : (p : ℕ → Bool) (k : ℕ) (xs : List ℕ) → position_or_len p (take k xs) ≡ length (take k xs) → position_or_len p xs ≡ length (take k xs) + position_or_len p (drop k xs)
place_behind p k xs e = place_in_two p k xs ∙ cond-true _ _ _ (eq-eqb _ _ e)

-- so many bytes of what is left come before the first that passes, and it stands in the chunk
pub reached : (p : ℕ → Bool) (k len clear : ℕ) (chunk rest xs : List ℕ) → clear ≡ position_or_len p chunk → chunk ≡ take k rest → k ≤ length rest → clear < k
    → len + position_or_len p rest ≡ position_or_len p xs → len + clear ≡ position_or_len p xs
reached p k len clear chunk rest xs counted is room short so_far =
    let found : clear ≡ position_or_len p (take k rest) = counted ∙ ap (position_or_len p) is in
    let first = place_in_front p k rest (omega (arith, found, length-take-le k rest room)) in
    ap (λ n. len + n) (found ∙ sym first) ∙ so_far

-- no byte of the chunk passes
pub passed : (p : ℕ → Bool) (k len clear : ℕ) (chunk rest xs : List ℕ) → clear ≡ position_or_len p chunk → chunk ≡ take k rest → k ≤ length rest → k ≤ clear
    → len + position_or_len p rest ≡ position_or_len p xs → (len + k) + position_or_len p (drop k rest) ≡ position_or_len p xs
passed p k len clear chunk rest xs counted is room whole so_far =
    let found : clear ≡ position_or_len p (take k rest) = counted ∙ ap (position_or_len p) is in
    let long = length-take-le k rest room in
    let most = prefix_len-le-length (λ x. not (p x)) (take k rest) in
    let behind = place_behind p k rest (omega (arith, found, long, most)) in
    omega (arith, behind, long, so_far)
