-- The bytes of names, paths and numbers, none of which ends a line.
use Rattle.std.proofs.Common.{◌≡◌, ℕ, zero, suc, ◌+◌, ◌<◌, ◌==◌, ◌&&◌, ◌||◌, nat_le, nat_lt, Bool, true, false, List, [], ◌∷◌, ◌++◌}
use Rattle.std.proofs.Common.{length, map, get_or, All, unwrap_or, inl, inr, refl, sym, ap, ◌∙◌, subst, length-append, lit≤, arith}
use Rattle.std.specs.Char.{digit_char}
use Rattle.std.specs.Int.Digits.{digits_of, AllBelowBase}
use Rattle.std.specs.List.{list_all, position_or_len}
use Rattle.std.proofs.lemmas.Bool.{cases_Bool, cases_lt, true≢false}
use Rattle.std.proofs.lemmas.Bool.Decides.{nat_tests}
use Rattle.std.proofs.lemmas.Int.Digits.{all_below_base_digits_of}
use Rattle.std.proofs.lemmas.List.{get_or_past}
use Rattle.std.proofs.lemmas.List.Folds.{list_all-append}
use Rattle.std.proofs.lemmas.List.Elements.{All-take, All-drop}
use Rattle.std.proofs.lemmas.Option.{slice_get_past, slice_get-get_or, unwrap_or-slice_get}
use Rattle.rl_policy.specs.Numbers.{hex_digits, spelled}
use Rattle.rl_model.specs.Rules.{is_letter, is_name_byte, is_name}
use Rattle.rl_model.specs.declared.rows.Item.{Item}
use Rattle.rl_model.specs.Rows.{FieldSeen, ChipData}
use Rattle.rl_model.specs.Chip.{IsSound, path_at, place_of, path_of_item}
use Rattle.rl_model.specs.Fields.{no_field, field_of, fields_of, field_in, count_of, first_of}
use Rattle.rl_map.specs.Layout.{no_map, map_at}
use Rattle.rl_access.specs.Model.{ModelData}
use Rattle.rl_report.specs.Operation.{kind_text}
use Rattle.rl_report.specs.WithoutItems.{HasNames}
use Rattle.rl_script.proofs.AgainLemmas.{and_parts}
use Rattle.rl_report.specs.ReadBack.{before_colon}
use Rattle.rl_report.proofs.Unbroken.{IsUnbroken, unbroken-cons}

-- a letter, a digit, `_`, a space, `-`, `.` or `@`, as in the spelling of an operation
abbrev pub is_spelling_byte : ℕ → Bool
is_spelling_byte c = is_name_byte c || (c == 32 || (c == 45 || (c == 46 || c == 64)))

-- a text stays closed here, so that tactics compute none
pub record IsSpelling (text : List ℕ) : Type 0 where
  pub each : list_all is_spelling_byte text ≡ true

pub spelling-append : (xs ys : List ℕ) → IsSpelling xs → IsSpelling ys → IsSpelling (xs ++ ys)
spelling-append xs ys p q = record { each = list_all-append is_spelling_byte xs ys ∙ ap (λ d. d && list_all is_spelling_byte ys) p.each ∙ q.each }

pub spelling-cons : (b : ℕ) (bs : List ℕ) → is_spelling_byte b ≡ true → IsSpelling bs → IsSpelling (b ∷ bs)
spelling-cons b bs h u = record { each = ap (λ d. d && list_all is_spelling_byte bs) h ∙ u.each }

-- a text whose bytes are written out
pub spelling-fixed : (text : List ℕ) → list_all is_spelling_byte text ≡ true → IsSpelling text
spelling-fixed text h = record { each = h }

byte_within : (c : ℕ) → is_spelling_byte c ≡ true → (c == 10) ≡ false
byte_within c h = grind (arith, nat_tests)

first_byte : (c : ℕ) (cs : List ℕ) → IsSpelling (c ∷ cs) → (is_spelling_byte c ≡ true) × IsSpelling cs
first_byte c cs h = let both = and_parts (is_spelling_byte c) (list_all is_spelling_byte cs) h.each in (both.0, record { each = both.1 })

pub unbroken-spelling : (text : List ℕ) → IsSpelling text → IsUnbroken text
unbroken-spelling [] h = record { each = refl }
unbroken-spelling (c ∷ cs) h = let both = first_byte c cs h in unbroken-cons c cs (byte_within c both.0) (unbroken-spelling cs both.1)

no_colon : (c : ℕ) → is_spelling_byte c ≡ true → (c == 58) ≡ false
no_colon c h = grind (arith, nat_tests)

-- the first colon behind it is the first of all
pub before_colon-spelling : (text rest : List ℕ) → IsSpelling text → before_colon (text ++ 58 ∷ rest) ≡ text
before_colon-spelling [] rest h = refl
before_colon-spelling (c ∷ cs) rest h =
    let both = first_byte c cs h in
    let place = position_or_len (λ b. b == 58) (cs ++ 58 ∷ rest) in
    let one : 1 + place ≡ suc place = omega arith in
    rw (no_colon c both.0, one) (ap (λ l. c ∷ l) (before_colon-spelling cs rest both.1))

-- ---- numbers

digit_byte : (d : ℕ) → d < 16 → is_spelling_byte (digit_char d) ≡ true
digit_byte d lt = grind (arith, nat_tests)

spelling-digits : (ds : List ℕ) → AllBelowBase 16 ds → IsSpelling (map digit_char ds)
spelling-digits [] all = record { each = refl }
spelling-digits (d ∷ ds) all = spelling-cons (digit_char d) (map digit_char ds) (digit_byte d all.0) (spelling-digits ds all.1)

spelling-hex_digits : (n : ℕ) → IsSpelling (hex_digits n)
unfolding hex_digits
spelling-hex_digits n =
    elim (cases_Bool (n == 0)) [
      | inl none ↦ rw none (record { each = refl })
      | inr some ↦ rw some (spelling-digits (digits_of 16 n) (all_below_base_digits_of 16 n (lit≤ tt)))
    ]

pub spelling-spelled : (n : ℕ) → IsSpelling (spelled n)
spelling-spelled n = spelling-cons 48 _ refl (spelling-cons 120 _ refl (spelling-hex_digits n))

-- ---- names

name_byte : (c : ℕ) → is_name_byte c ≡ true → is_spelling_byte c ≡ true
name_byte c h = ap (λ b. b || (c == 32 || (c == 45 || (c == 46 || c == 64)))) h

letter_byte : (c : ℕ) → is_letter c ≡ true → is_spelling_byte c ≡ true
letter_byte c h = name_byte c (ap (λ b. b || (nat_le 48 c && nat_le c 57)) h)

spelling-name_bytes : (cs : List ℕ) → list_all is_name_byte cs ≡ true → IsSpelling cs
spelling-name_bytes [] h = record { each = refl }
spelling-name_bytes (c ∷ cs) h =
    let both = and_parts (is_name_byte c) (list_all is_name_byte cs) h in
    spelling-cons c cs (name_byte c both.0) (spelling-name_bytes cs both.1)

pub spelling-name : (name : List ℕ) → is_name name ≡ true → IsSpelling name
spelling-name [] h = absurd (true≢false (sym h))
spelling-name (c ∷ cs) h =
    let bytes = (and_parts (nat_lt (length cs) 32) (is_letter c && list_all is_name_byte cs) h).1 in
    let both = and_parts (is_letter c) (list_all is_name_byte cs) bytes in
    spelling-cons c cs (letter_byte c both.0) (spelling-name_bytes cs both.1)

-- ---- one of a list, or nothing past its end

all_or : {X : Type 0} (P : X → Type 0) (xs : List X) (i : ℕ) (d : X) → All P xs → P d → P (get_or xs i d)
all_or P xs i d each past =
    elim (cases_lt i (length xs)) [
      | inl within ↦ each i d within
      | inr beyond ↦ subst P (sym (get_or_past xs i d beyond)) past
    ]

-- ---- paths

-- by the number of its bytes: a scope's path is shorter
path_below : (c : ChipData) → IsSound c → (n i : ℕ) → length (path_at c i) < n → i < length c.paths → IsSpelling (path_at c i)
path_below c s zero i few within = absurd (omega arith)
path_below c s (suc n) i few within =
    elim (s.parents i within) [
      | inl top ↦ spelling-name (path_at c i) top
      | inr (scope, inside) ↦
          let front = path_at c scope in
          let size : length (path_at c i) ≡ length front + suc (length inside.name) = ap length inside.joined ∙ length-append front (46 ∷ inside.name) in
          let front_bytes : IsSpelling front = path_below c s n scope (omega (arith, size, few)) (omega (arith, inside.scope, s.paths)) in
          subst IsSpelling (sym inside.joined) (spelling-append front (46 ∷ inside.name) front_bytes (spelling-cons 46 inside.name refl (spelling-name inside.name inside.named)))
    ]

pub spelling-path : (c : ChipData) → IsSound c → (i : ℕ) → IsSpelling (path_at c i)
spelling-path c s i =
    elim (cases_lt i (length c.paths)) [
      | inl within ↦ path_below c s (suc (length (path_at c i))) i (omega arith) within
      | inr beyond ↦ subst (λ p. IsSpelling (unwrap_or p [])) (sym (slice_get_past c.paths i beyond)) (record { each = refl })
    ]

pub spelling-path_of_item : (c : ChipData) → IsSound c → (item : Item) → IsSpelling (path_of_item c item)
spelling-path_of_item c s item = spelling-path c s (place_of c item)

-- ---- fields

names_bytes : (c : ChipData) → IsSound c → All (λ f. IsSpelling f.name) c.fields
names_bytes c s k d within = spelling-name _ (s.each_field k (get_or c.fields k d) (slice_get-get_or c.fields k d within)).2

pub spelling-field : (c : ChipData) → IsSound c → (n : ℕ) → IsSpelling (field_of c n).name
spelling-field c s n = all_or (λ f. IsSpelling f.name) c.fields n no_field (names_bytes c s) (record { each = refl })

pub spelling-field_in : (c : ChipData) → IsSound c → (reg k : ℕ) → IsSpelling (field_in (fields_of c reg) k).name
unfolding fields_of
spelling-field_in c s reg k =
    let P : FieldSeen → Type 0 = λ f. IsSpelling f.name in
    all_or P (fields_of c reg) k no_field (All-take P (count_of c reg) _ (All-drop P (first_of c reg) c.fields (names_bytes c s))) (record { each = refl })

-- ---- kinds and maps

pub spelling-kind : (m : ModelData) → HasNames m.chip m.layout → (kind : ℕ) → IsSpelling (kind_text m.chip kind)
spelling-kind m names kind =
    subst IsSpelling (sym (unwrap_or-slice_get m.chip.kinds kind []))
    (all_or IsSpelling m.chip.kinds kind [] (λ k d within. spelling-name _ (names.kinds k d within)) (record { each = refl }))

pub spelling-map : (m : ModelData) → HasNames m.chip m.layout → (map : ℕ) → IsSpelling (map_at m.layout map).name
spelling-map m names map =
    all_or (λ row. IsSpelling row.name) m.layout.maps map no_map (λ k d within. spelling-name _ (names.maps k d within)) (record { each = refl })

-- ---- none of them ends a line

pub unbroken-path : (c : ChipData) → IsSound c → (i : ℕ) → IsUnbroken (path_at c i)
unbroken-path c s i = unbroken-spelling (path_at c i) (spelling-path c s i)

pub unbroken-field_in : (c : ChipData) → IsSound c → (reg k : ℕ) → IsUnbroken (field_in (fields_of c reg) k).name
unbroken-field_in c s reg k = unbroken-spelling (field_in (fields_of c reg) k).name (spelling-field_in c s reg k)

pub unbroken-map : (m : ModelData) → HasNames m.chip m.layout → (map : ℕ) → IsUnbroken (map_at m.layout map).name
unbroken-map m names map = unbroken-spelling (map_at m.layout map).name (spelling-map m names map)
