-- The names and paths of a chip are names and paths of a script.
use Rattle.std.proofs.Common.{◌≡◌, ℕ, zero, suc, ◌+◌, ◌<◌, ◌≤◌, ◌&&◌, ◌||◌, nat_le, nat_lt, Bool, true, false, IsTrue, List, []}
use Rattle.std.proofs.Common.{◌∷◌, ◌++◌, length, Option, Some, None, inl, inr, refl, sym, ap, ◌∙◌, subst, length-append, arith}
use Rattle.std.specs.Prelude.{IfSome}
use Rattle.std.specs.List.{list_all, slice_split, onto_first}
use Rattle.std.proofs.lemmas.Bool.{cases_Bool, true≢false, le-leb}
use Rattle.std.proofs.lemmas.Bool.Decides.{nat_tests}
use Rattle.std.proofs.lemmas.List.Folds.{list_all-append}
use Rattle.std.proofs.lemmas.List.Splits.{length-slice_split}
use Rattle.std.proofs.lemmas.Option.{slice_get-get_or, unwrap_or-slice_get}
use Rattle.rl_model.specs.Rules.{is_letter, is_name_byte, is_name}
use Rattle.rl_model.specs.Rows.{ChipData}
use Rattle.rl_model.specs.Chip.{IsSound, path_at}
use Rattle.rl_model.specs.Fields.{no_field, field_of}
use Rattle.rl_map.specs.Layout.{no_map, map_at}
use Rattle.rl_mirror.proofs.FieldLemmas.{seated}
use Rattle.rl_access.specs.Model.{ModelData}
use Rattle.rl_access.specs.Operation.{IsMapIn}
use Rattle.rl_script.specs.Names as script
use Rattle.rl_script.specs.Names.{begins_name, is_in_name, is_dot}
use Rattle.rl_script.proofs.AgainLemmas.{and_parts}
use Rattle.rl_report.specs.declared.operation.Subject.{Subject}
use Rattle.rl_report.specs.declared.operation.Subject.TheVariants.{Reg, Field, Mem}
use Rattle.rl_report.specs.Operation.{subject_path, map_name, kind_text, IsSubjectIn}
use Rattle.rl_report.specs.WithoutItems.{HasNames}

-- ---- names

letter_begins : (c : ℕ) → is_letter c ≡ true → begins_name c ≡ true
letter_begins c h = grind (arith, nat_tests)

byte_inside : (c : ℕ) → is_name_byte c ≡ true → is_in_name c ≡ true
byte_inside c h = grind (arith, nat_tests)

byte_is_no_dot : (c : ℕ) → is_name_byte c ≡ true → is_dot c ≡ false
byte_is_no_dot c h = grind (arith, nat_tests)

letter_is_byte : (c : ℕ) → is_letter c ≡ true → is_name_byte c ≡ true
letter_is_byte c h = ap (λ b. b || (nat_le 48 c && nat_le c 57)) h

bytes_inside : (cs : List ℕ) → list_all is_name_byte cs ≡ true → list_all is_in_name cs ≡ true
bytes_inside [] h = refl
bytes_inside (c ∷ cs) h = let both = and_parts (is_name_byte c) (list_all is_name_byte cs) h in rw (byte_inside c both.0) (bytes_inside cs both.1)

record NameParts (c : ℕ) (cs : List ℕ) : Type 0 where
  few : nat_lt (length cs) 32 ≡ true
  first : is_letter c ≡ true
  others : list_all is_name_byte cs ≡ true

name_parts : (c : ℕ) (cs : List ℕ) → is_name (c ∷ cs) ≡ true → NameParts c cs
name_parts c cs h =
    let both = and_parts (nat_lt (length cs) 32) (is_letter c && list_all is_name_byte cs) h in
    let bytes = and_parts (is_letter c) (list_all is_name_byte cs) both.1 in
    record { few = both.0; first = bytes.0; others = bytes.1 }

three : (a b c : Bool) → a ≡ true → b ≡ true → c ≡ true → (a && b && c) ≡ true
three a b c p q r = rw (p, q, r) refl

pub script_name : (name : List ℕ) → is_name name ≡ true → script.is_name name ≡ true
unfolding script.is_name
script_name [] h = absurd (true≢false (sym h))
script_name (c ∷ cs) h =
    let parts = name_parts c cs h in
    three (begins_name c) (list_all is_in_name cs) (nat_lt (length cs) 32) (letter_begins c parts.first) (bytes_inside cs parts.others) parts.few

-- ---- paths

-- a name has no dot, so it is one part
bytes_are_one : (cs : List ℕ) → list_all is_name_byte cs ≡ true → slice_split is_dot cs ≡ cs ∷ []
bytes_are_one [] h = refl
bytes_are_one (c ∷ cs) h =
    let both = and_parts (is_name_byte c) (list_all is_name_byte cs) h in
    rw (byte_is_no_dot c both.0, bytes_are_one cs both.1) refl

name_is_one : (name : List ℕ) → is_name name ≡ true → slice_split is_dot name ≡ name ∷ []
name_is_one [] h = absurd (true≢false (sym h))
name_is_one (c ∷ cs) h =
    let parts = name_parts c cs h in
    rw (byte_is_no_dot c (letter_is_byte c parts.first), bytes_are_one cs parts.others) refl

onto_pushed : (c : ℕ) (ps : List (List ℕ)) (name : List ℕ) → 0 < length ps → onto_first c (ps ++ name ∷ []) ≡ onto_first c ps ++ name ∷ []
onto_pushed c [] name some = absurd (omega arith)
onto_pushed c (p ∷ ps) name some = refl

some_parts : (text : List ℕ) → 0 < length (slice_split is_dot text)
some_parts text = let count = length-slice_split is_dot text in omega (arith, count)

-- a name behind a dot is the last part
name_behind : (front name : List ℕ) → is_name name ≡ true → slice_split is_dot (front ++ 46 ∷ name) ≡ slice_split is_dot front ++ name ∷ []
name_behind [] name h = ap (λ ps. [] ∷ ps) (name_is_one name h)
name_behind (c ∷ cs) name h =
    elim (cases_Bool (is_dot c)) [
      | inl dot ↦ rw dot (ap (λ ps. [] ∷ ps) (name_behind cs name h))
      | inr plain ↦ rw plain (ap (onto_first c) (name_behind cs name h) ∙ onto_pushed c (slice_split is_dot cs) name (some_parts cs))
    ]

names_one : (name : List ℕ) → is_name name ≡ true → list_all script.is_name (slice_split is_dot name) ≡ true
names_one name h = ap (list_all script.is_name) (name_is_one name h) ∙ ap (λ b. b && true) (script_name name h)

names_behind : (front name : List ℕ) → list_all script.is_name (slice_split is_dot front) ≡ true → is_name name ≡ true → list_all script.is_name (slice_split is_dot (front ++ 46 ∷ name)) ≡ true
names_behind front name before h =
    ap (list_all script.is_name) (name_behind front name h)
    ∙ list_all-append script.is_name (slice_split is_dot front) (name ∷ [])
    ∙ ap (λ b. b && (script.is_name name && true)) before
    ∙ ap (λ b. b && true) (script_name name h)

-- by the number of its bytes: a scope's path is shorter
names_below : (c : ChipData) → IsSound c → (n i : ℕ) → length (path_at c i) < n → i < length c.paths → list_all script.is_name (slice_split is_dot (path_at c i)) ≡ true
names_below c s zero i few within = absurd (omega arith)
names_below c s (suc n) i few within =
    elim (s.parents i within) [
      | inl top ↦ names_one (path_at c i) top
      | inr (scope, inside) ↦
          let front = path_at c scope in
          let size : length (path_at c i) ≡ length front + suc (length inside.name) = ap length inside.joined ∙ length-append front (46 ∷ inside.name) in
          let before = names_below c s n scope (omega (arith, size, few)) (omega (arith, inside.scope, s.paths)) in
          ap (λ path. list_all script.is_name (slice_split is_dot path)) inside.joined ∙ names_behind front inside.name before inside.named
    ]

is_path_by : (path : List ℕ) → length (slice_split is_dot path) ≤ 9 → list_all script.is_name (slice_split is_dot path) ≡ true → script.is_path path ≡ true
unfolding script.is_path
is_path_by path few each = rw (le-leb (length (slice_split is_dot path)) 9 few) each

few_names : (c : ChipData) → IsSound c → (i : ℕ) → i < length c.paths → length (slice_split is_dot (path_at c i)) ≤ 8
few_names c s i within = let count = length-slice_split is_dot (path_at c i) in let deep = s.deep i within in omega (arith, count, deep)

script_path : (c : ChipData) → IsSound c → (i : ℕ) → i < length c.paths → script.is_path (path_at c i) ≡ true
script_path c s i within =
    let few = few_names c s i within in
    is_path_by (path_at c i) (omega (arith, few)) (names_below c s (suc (length (path_at c i))) i (omega arith) within)

script_field : (c : ChipData) → IsSound c → (i : ℕ) (name : List ℕ) → i < length c.paths → is_name name ≡ true → script.is_path (path_at c i ++ 46 ∷ name) ≡ true
script_field c s i name within h =
    let few = few_names c s i within in
    let before = names_below c s (suc (length (path_at c i))) i (omega arith) within in
    let one : length (slice_split is_dot (path_at c i ++ 46 ∷ name)) ≡ length (slice_split is_dot (path_at c i)) + 1 =
    ap length (name_behind (path_at c i) name h) ∙ length-append (slice_split is_dot (path_at c i)) (name ∷ []) in
    is_path_by (path_at c i ++ 46 ∷ name) (omega (arith, one, few)) (names_behind (path_at c i) name before h)

pub subject_is_path : (c : ChipData) → IsSound c → (s : Subject) → IsSubjectIn c s → IsTrue (script.is_path (subject_path c s))
subject_is_path c s (Reg reg) h = script_path c s (c.scopes + reg) (omega (arith, h, s.paths))
subject_is_path c s (Field field) h =
    let f = field_of c field in
    let is = slice_get-get_or c.fields field no_field h in
    let seat = seated c field s h in
    script_field c s (c.scopes + f.shape.reg) f.name (omega (arith, seat.reg, s.paths)) (s.each_field field f is).2
subject_is_path c s (Mem mem) h = script_path c s (c.scopes + length c.regs + mem) (omega (arith, h, s.paths))

-- ---- maps and kinds

pub map_is_name : (m : ModelData) → HasNames m.chip m.layout → (through : Option ℕ) → IsMapIn (length m.layout.maps) through → IfSome (map_name m.layout through) (λ name. IsTrue (script.is_name name))
map_is_name m names None h = tt
map_is_name m names (Some map) h = script_name (map_at m.layout map).name (names.maps map no_map h)

pub kind_is_name : (m : ModelData) → HasNames m.chip m.layout → (kind : ℕ) → kind < length m.chip.kinds → IsTrue (script.is_name (kind_text m.chip kind))
kind_is_name m names kind h = script_name (kind_text m.chip kind) (subst (λ name. is_name name ≡ true) (sym (unwrap_or-slice_get m.chip.kinds kind [])) (names.kinds kind [] h))
