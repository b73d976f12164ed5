-- A path, name by name: how many names there are so far, and how many bytes the last has.
use Rattle.std.proofs.Common.{◌≡◌, ℕ, zero, suc, ◌+◌, ◌-◌, ◌<◌, ◌≤◌, Bool, true, false, ◌&&◌, List, [], ◌∷◌, length, take, drop}
use Rattle.std.proofs.Common.{get_or, take_all, length-drop, ◌⊎◌, refl, sym, ap, ◌∙◌, arith, inl, inr, not, lt-ltb, le-ltb}
use Rattle.std.specs.Prelude.{nat_le, nat_lt, ◌==◌, ◌||◌}
use Rattle.std.specs.Int.{is_in_range}
use Rattle.std.specs.List.{list_all, slice_split, position_or_len}
use Rattle.std.proofs.lemmas.Bool.{cases_Bool, le-leb, lt-leb, eqb-true}
use Rattle.std.proofs.lemmas.Bool.Decides.{nat_tests}
use Rattle.rl_script.specs.Names.{begins_name, is_in_name, is_dot, is_name, is_path}

-- whether the rest of a name may stand behind so many of its bytes
abbrev name_after : ℕ → List ℕ → Bool
name_after zero p = is_name p
name_after (suc k) p = list_all is_in_name p && nat_lt (k + length p) 32

abbrev ends_well : ℕ → ℕ → List (List ℕ) → Bool
ends_well names len [] = false
ends_well names len (p ∷ ps) = nat_le (names + length ps) 9 && (name_after len p && list_all is_name ps)

-- whether the rest ends a path of which so many names were begun, the last with so many bytes
abbrev pub goes_on : ℕ → ℕ → List ℕ → Bool
goes_on names len rest = ends_well names len (slice_split is_dot rest)

some : (text : List ℕ) → (p : List ℕ) × (ps : List (List ℕ)) × (slice_split is_dot text ≡ p ∷ ps)
some [] = ([], [], refl)
some (c ∷ cs) =
    elim (cases_Bool (is_dot c)) [
      | inl holds ↦ ([], slice_split is_dot cs, rw holds refl)
      | inr fails ↦ let (p, ps, e) = some cs in (c ∷ p, ps, rw (fails, e) refl)
    ]

no : (b : Bool) → (b && false) ≡ false
no true = refl
no false = refl

in_name_no_dot : (c : ℕ) → is_in_name c ≡ true → is_dot c ≡ false
in_name_no_dot c inside =
    elim (cases_Bool (is_dot c)) [
      | inl holds ↦ absurd (let e = rw (eqb-true _ _ holds) at inside in cc)
      | inr fails ↦ fails
    ]

no_part : (d u l w : Bool) → (((d || u) || l) || w) ≡ false → ((u || l) || w) ≡ false
no_part true u l w e = absurd cc
no_part false true l w e = absurd cc
no_part false false true w e = absurd cc
no_part false false false w e = e

byte_is_dot : (c : ℕ) → c ≡ 46 → is_dot c ≡ true
byte_is_dot c e = rw e refl

isnt_dot : (c : ℕ) → (c ≡ 46 → ⊥) → is_dot c ≡ false
isnt_dot c ne = grind (arith, nat_tests, ne)

begins_is_in : (c : ℕ) → is_in_name c ≡ false → begins_name c ≡ false
begins_is_in c outside = no_part (is_in_range 48 57 c) (is_in_range 65 90 c) (is_in_range 97 122 c) (c == 95) outside

pub begins : (text : List ℕ) → goes_on 1 0 text ≡ is_path text
unfolding is_path
begins text =
    let (p, ps, e) = some text in
    let one : 1 + length ps ≡ suc (length ps) = omega arith in
    rw (e, one) refl

dot_without_name : (names : ℕ) (c : ℕ) (rest : List ℕ) → is_dot c ≡ true → goes_on names 0 (c ∷ rest) ≡ false
unfolding is_name
dot_without_name names c rest dot = rw dot (no _)

too_many_names : (len : ℕ) (c : ℕ) (rest : List ℕ) → is_dot c ≡ true → goes_on 9 len (c ∷ rest) ≡ false
too_many_names len c rest dot =
    let (p, ps, e) = some rest in
    let many : nat_le (9 + suc (length ps)) 9 ≡ false = lt-leb _ _ (omega arith) in
    rw (dot, e, many) refl

next_name : (names len : ℕ) (c : ℕ) (rest : List ℕ) → is_dot c ≡ true → 0 < len → len ≤ 32 → goes_on names len (c ∷ rest) ≡ goes_on (names + 1) 0 rest
next_name names zero c rest dot least most = absurd (omega arith)
next_name names (suc k) c rest dot least most =
    let (p, ps, e) = some rest in
    let short : nat_lt (k + 0) 32 ≡ true = lt-ltb _ _ (omega arith) in
    let same : names + suc (length ps) ≡ (names + 1) + length ps = omega arith in
    rw (dot, e, short, same) refl

later_byte : (names k : ℕ) (c : ℕ) (rest : List ℕ) → is_in_name c ≡ true → goes_on names (suc k) (c ∷ rest) ≡ goes_on names (suc (suc k)) rest
later_byte names k c rest inside =
    let (p, ps, e) = some rest in
    let same : k + suc (length p) ≡ suc k + length p = omega arith in
    rw (in_name_no_dot c inside, e, inside, same) refl

bad_start : (names : ℕ) (c : ℕ) (rest : List ℕ) → is_dot c ≡ false → begins_name c ≡ false → goes_on names 0 (c ∷ rest) ≡ false
unfolding is_name
bad_start names c rest dot fails =
    let (p, ps, e) = some rest in
    rw (dot, e, fails) (no _)

bad_byte : (names len : ℕ) (c : ℕ) (rest : List ℕ) → is_dot c ≡ false → is_in_name c ≡ false → goes_on names len (c ∷ rest) ≡ false
bad_byte names zero c rest dot outside = bad_start names c rest dot (begins_is_in c outside)
bad_byte names (suc k) c rest dot outside =
    let (p, ps, e) = some rest in
    rw (dot, e, outside) (no _)

without_name : (names : ℕ) → goes_on names 0 [] ≡ false
unfolding is_name
without_name names = no _

with_name : (names len : ℕ) → names ≤ 9 → 0 < len → len ≤ 32 → goes_on names len [] ≡ true
with_name names zero few least most = absurd (omega arith)
with_name names (suc k) few least most =
    let fits : nat_le (names + 0) 9 ≡ true = le-leb _ _ (omega arith) in
    let short : nat_lt (k + 0) 32 ≡ true = lt-ltb _ _ (omega arith) in
    rw (fits, short) refl

-- ---- name by name

-- how many bytes in front may stand in a name
abbrev pub front : List ℕ → ℕ
front rest = position_or_len (λ c. not (is_in_name c)) rest

begins_no_dot : (c : ℕ) → begins_name c ≡ true → is_dot c ≡ false
begins_no_dot c may_begin =
    elim (cases_Bool (is_dot c)) [
      | inl holds ↦ absurd (let e = rw (eqb-true _ _ holds) at may_begin in cc)
      | inr fails ↦ fails
    ]

first_byte : (names : ℕ) (c : ℕ) (rest : List ℕ) → begins_name c ≡ true → goes_on names 0 (c ∷ rest) ≡ goes_on names 1 rest
unfolding is_name
first_byte names c rest may_begin =
    let (p, ps, e) = some rest in
    let same : 0 + length p ≡ length p = omega arith in
    rw (begins_no_dot c may_begin, e, may_begin, same) refl

front_more : (c : ℕ) (cs : List ℕ) → is_in_name c ≡ true → front (c ∷ cs) ≡ suc (front cs)
front_more c cs inside =
    let one : 1 + front cs ≡ suc (front cs) = omega arith in
    rw (inside, one) refl

front_none : (c : ℕ) (cs : List ℕ) → is_in_name c ≡ false → front (c ∷ cs) ≡ 0
front_none c cs outside = rw outside refl

name_bytes : (names k : ℕ) (rest : List ℕ) → goes_on names (suc k) rest ≡ goes_on names (suc k + front rest) (drop (front rest) rest)
name_bytes names k [] =
    let none : suc k ≡ suc k + 0 = omega arith in
    ap (λ (n : ℕ). goes_on names n []) none
name_bytes names k (c ∷ cs) =
    elim (cases_Bool (is_in_name c)) [
      | inl inside ↦
          let same : suc (suc k) + front cs ≡ suc k + suc (front cs) = omega arith in
          later_byte names k c cs inside
          ∙ name_bytes names (suc k) cs
          ∙ ap (λ (n : ℕ). goes_on names n (drop (front cs) cs)) same
          ∙ sym (ap (λ (n : ℕ). goes_on names (suc k + n) (drop n (c ∷ cs))) (front_more c cs inside))
      | inr outside ↦
          let none : suc k ≡ suc k + 0 = omega arith in
          ap (λ (n : ℕ). goes_on names n (c ∷ cs)) none
          ∙ sym (ap (λ (n : ℕ). goes_on names (suc k + n) (drop n (c ∷ cs))) (front_none c cs outside))
    ]

-- the first byte of a text is none of a name
abbrev stops : List ℕ → Bool
stops [] = true
stops (c ∷ cs) = not (is_in_name c)

front_stops : (rest : List ℕ) → stops (drop (front rest) rest) ≡ true
front_stops [] = refl
front_stops (c ∷ cs) =
    elim (cases_Bool (is_in_name c)) [
      | inl inside ↦ ap (λ (n : ℕ). stops (drop n (c ∷ cs))) (front_more c cs inside) ∙ front_stops cs
      | inr outside ↦ ap (λ (n : ℕ). stops (drop n (c ∷ cs))) (front_none c cs outside) ∙ ap not outside
    ]

long_name : (names k : ℕ) (rest : List ℕ) → 32 ≤ k → goes_on names (suc k) rest ≡ false
long_name names k rest long =
    let (p, ps, e) = some rest in
    let too : nat_lt (k + length p) 32 ≡ false = le-ltb _ _ (omega arith) in
    rw (e, too) (no_part_of (nat_le (names + length ps) 9) (list_all is_in_name p) (list_all is_name ps))
  where
    no_part_of : (a b c : Bool) → (a && ((b && false) && c)) ≡ false
    no_part_of true true c = refl
    no_part_of true false c = refl
    no_part_of false b c = refl

-- ---- what the first bytes of the rest say of the whole text

abbrev pub behind_first : List ℕ → List ℕ
behind_first rest = take (length rest - 1) (drop 1 rest)

abbrev pub behind_name : ℕ → List ℕ → List ℕ
behind_name len behind = take (length behind - len) (drop len behind)

from_place : (k : ℕ) (xs : List ℕ) → take (length xs - k) (drop k xs) ≡ drop k xs
from_place k xs = take_all (length xs - k) (drop k xs) (omega (arith, length-drop k xs))

first_and_behind : (xs : List ℕ) → 1 ≤ length xs → xs ≡ get_or xs 0 0 ∷ behind_first xs
first_and_behind [] some = absurd (omega arith)
first_and_behind (x ∷ xs) some = ap (λ (l : List ℕ). x ∷ l) (sym (from_place 1 (x ∷ xs)))

empty : (xs : List ℕ) → length xs < 1 → xs ≡ []
empty [] none = refl
empty (x ∷ xs) none = absurd (omega arith)

-- what is left is a byte and those behind it, so many of which may stand in a name
abbrev pub Left : ℕ → ℕ → ℕ → List ℕ → List ℕ → Type 0
Left names first len behind text = (goes_on names 0 (first ∷ behind) ≡ is_path text) × (len ≡ front behind)

pub left_of : (names : ℕ) (rest text : List ℕ) → 1 ≤ length rest → goes_on names 0 rest ≡ is_path text → goes_on names 0 (get_or rest 0 0 ∷ behind_first rest) ≡ is_path text
left_of names rest text some so_far = sym (ap (λ (l : List ℕ). goes_on names 0 l) (first_and_behind rest some)) ∙ so_far

pub refused_end : (names : ℕ) (rest text : List ℕ) → length rest < 1 → goes_on names 0 rest ≡ is_path text → false ≡ is_path text
refused_end names rest text none so_far =
    sym (without_name names) ∙ sym (ap (λ (l : List ℕ). goes_on names 0 l) (empty rest none)) ∙ so_far

pub refused_first : (names first : ℕ) (behind text : List ℕ) → begins_name first ≡ false → goes_on names 0 (first ∷ behind) ≡ is_path text → false ≡ is_path text
refused_first names first behind text fails so_far = sym (no_start (cases_Bool (is_dot first))) ∙ so_far
  where
    no_start : (is_dot first ≡ true) ⊎ (is_dot first ≡ false) → goes_on names 0 (first ∷ behind) ≡ false
    no_start (inl dot) = dot_without_name names first behind dot
    no_start (inr plain) = bad_start names first behind plain fails

past_name : (names first len : ℕ) (behind text : List ℕ) → begins_name first ≡ true → Left names first len behind text → goes_on names (suc len) (drop len behind) ≡ is_path text
past_name names first len behind text may_begin left =
    let one : suc 0 + front behind ≡ suc (front behind) = omega arith in
    ap (λ (n : ℕ). goes_on names (suc n) (drop n behind)) left.1
    ∙ sym (first_byte names first behind may_begin ∙ name_bytes names 0 behind ∙ ap (λ (n : ℕ). goes_on names n (drop (front behind) behind)) one)
    ∙ left.0

pub refused_long : (names first len : ℕ) (behind text : List ℕ) → begins_name first ≡ true → Left names first len behind text → 32 ≤ len → false ≡ is_path text
refused_long names first len behind text may_begin left long =
    sym (long_name names len (drop len behind) long) ∙ past_name names first len behind text may_begin left

-- the same, where the name ends at a place of the text that is left
past_place : (names first len : ℕ) (behind text : List ℕ) → begins_name first ≡ true → Left names first len behind text → goes_on names (suc len) (behind_name len behind) ≡ is_path text
past_place names first len behind text may_begin left =
    ap (λ (l : List ℕ). goes_on names (suc len) l) (from_place len behind) ∙ past_name names first len behind text may_begin left

pub ends_path : (names first len : ℕ) (behind text : List ℕ) → begins_name first ≡ true → Left names first len behind text → len < 32 → names ≤ 9
    → length (behind_name len behind) < 1 → true ≡ is_path text
ends_path names first len behind text may_begin left short few none =
    sym (with_name names (suc len) few (omega arith) (omega arith))
    ∙ sym (ap (λ (l : List ℕ). goes_on names (suc len) l) (empty _ none))
    ∙ past_place names first len behind text may_begin left

-- and goes on there with a byte
with_byte : (names first len : ℕ) (behind text after : List ℕ) → begins_name first ≡ true → Left names first len behind text → after ≡ behind_name len behind
    → 1 ≤ length after → goes_on names (suc len) (get_or after 0 0 ∷ behind_first after) ≡ is_path text
with_byte names first len behind text after may_begin left is some =
    sym (ap (λ (l : List ℕ). goes_on names (suc len) l) (first_and_behind after some))
    ∙ ap (λ (l : List ℕ). goes_on names (suc len) l) is
    ∙ past_place names first len behind text may_begin left

pub next_begins : (names first len : ℕ) (behind text after : List ℕ) → begins_name first ≡ true → Left names first len behind text → len < 32
    → after ≡ behind_name len behind → 1 ≤ length after → get_or after 0 0 ≡ 46 → goes_on (names + 1) 0 (behind_first after) ≡ is_path text
next_begins names first len behind text after may_begin left short is some dot =
    sym (next_name names (suc len) (get_or after 0 0) (behind_first after) (byte_is_dot _ dot) (omega arith) (omega arith))
    ∙ with_byte names first len behind text after may_begin left is some

pub refused_tenth : (names first len : ℕ) (behind text after : List ℕ) → begins_name first ≡ true → Left names first len behind text → names ≡ 9
    → after ≡ behind_name len behind → 1 ≤ length after → get_or after 0 0 ≡ 46 → false ≡ is_path text
refused_tenth names first len behind text after may_begin left full is some dot =
    sym (too_many_names (suc len) (get_or after 0 0) (behind_first after) (byte_is_dot _ dot))
    ∙ sym (ap (λ (n : ℕ). goes_on n (suc len) (get_or after 0 0 ∷ behind_first after)) full)
    ∙ with_byte names first len behind text after may_begin left is some

not_true : (b : Bool) → not b ≡ true → b ≡ false
not_true true h = cc
not_true false h = refl

pub refused_byte : (names first len : ℕ) (behind text after : List ℕ) → begins_name first ≡ true → Left names first len behind text
    → (get_or after 0 0 ≡ 46 → ⊥) → after ≡ behind_name len behind → 1 ≤ length after → false ≡ is_path text
refused_byte names first len behind text after may_begin left plain is some =
    let place : after ≡ drop (front behind) behind = is ∙ from_place len behind ∙ ap (λ (n : ℕ). drop n behind) left.1 in
    let outside : is_in_name (get_or after 0 0) ≡ false = not_true _ (sym (ap stops (first_and_behind after some)) ∙ ap stops place ∙ front_stops behind) in
    sym (bad_byte names (suc len) (get_or after 0 0) (behind_first after) (isnt_dot _ plain) outside)
    ∙ with_byte names first len behind text after may_begin left is some
