-- A name of a chip stands for what it names, and is plain.
use Rattle.std.proofs.Common.{◌≡◌, ℕ, ◌+◌, ◌<◌, ◌≤◌, Bool, true, false, List, [], ◌∷◌, length, take, drop, slice_get, position, Option, Some, None, option_map, is_some, unwrap_or}
use Rattle.std.proofs.Common.{refl, sym, ap, ◌∙◌, inl, inr, arith, bytes_eq, get_or, length-take-le, length-drop}
use Rattle.std.proofs.lemmas.Bool.{cases_lt, false≢true}
use Rattle.std.proofs.lemmas.Slice.Eq.{bytes_eq-Decides}
use Rattle.std.proofs.lemmas.Option.{none-some, same_Some, get_or_from_slice_get, slice_get_within}
use Rattle.std.proofs.lemmas.List.Quantifiers.{position-Some}
use Rattle.std.specs.List.{list_any}
use Rattle.rl_model.specs.declared.rows.Item.{Item}
use Rattle.rl_model.specs.declared.rows.Item.TheVariants.{Reg, Mem}
use Rattle.rl_model.specs.Rows.{FieldSeen, ChipData}
use Rattle.rl_model.specs.Paths.{AllDiffer}
use Rattle.rl_model.specs.Chip.{IsSound, HasItem, IsFieldOf, field_path, path_at, path_of_item, last_dot}
use Rattle.rl_model.proofs.PathLemmas.{any-position}
use Rattle.rl_model.proofs.SoundLemmas.{there, none_at, get-take, get-drop}
use Rattle.rl_model.proofs.Dots.{last_dot-append, no_dot, take_front, drop_after}
use Rattle.rl_model.proofs.FieldLookUps.{some_is}
use Rattle.rl_desc.specs.Flaws.{field_at, text_at, kind_at, reg_paths, mem_paths, item_at}
use Rattle.rl_grade_report.specs.Groups.{kind_text}
use Rattle.rl_grade_report.specs.Lines.{field_name}

-- ---- look-ups

by_position : {X : Type 0} (p : X → Bool) (xs : List X) (i : ℕ) (x : X) (o : Option ℕ) → position p xs ≡ o → slice_get xs i ≡ Some x → p x ≡ true
    → ((j : ℕ) (y : X) → slice_get xs j ≡ Some y → p y ≡ true → j ≡ i) → position p xs ≡ Some i
by_position p xs i x None e at passes only =
    let none : list_any p xs ≡ false = any-position p xs ∙ ap is_some e in
    absurd (false≢true (sym (none_at p xs i x none at) ∙ passes))
by_position p xs i x (Some k) e at passes only =
    let (lt, _, _) = position-Some p xs k x e in
    let (y, at_k) = there xs k lt in
    let (_, hit, _) = position-Some p xs k y e in
    let is_y : get_or xs k y ≡ y = get_or_from_slice_get xs k y y at_k in
    e ∙ ap Some (only k y at_k (ap p (sym is_y) ∙ hit))

-- the place of the only one that passes
pub position_at : {X : Type 0} (p : X → Bool) (xs : List X) (i : ℕ) (x : X) → slice_get xs i ≡ Some x → p x ≡ true
    → ((j : ℕ) (y : X) → slice_get xs j ≡ Some y → p y ≡ true → j ≡ i) → position p xs ≡ Some i
position_at p xs i x at passes only = by_position p xs i x (position p xs) refl at passes only

by_none : {X : Type 0} (p : X → Bool) (xs : List X) (o : Option ℕ) → position p xs ≡ o → ((j : ℕ) (y : X) → slice_get xs j ≡ Some y → p y ≡ true → ⊥)
    → position p xs ≡ None
by_none p xs None e never = e
by_none p xs (Some k) e never =
    let (lt, _, _) = any_some p xs k e in
    let (y, at_k) = there xs k lt in
    let (_, hit, _) = position-Some p xs k y e in
    let is_y : get_or xs k y ≡ y = get_or_from_slice_get xs k y y at_k in
    absurd (never k y at_k (ap p (sym is_y) ∙ hit))
  where
    any_some : {X : Type 0} (p : X → Bool) (xs : List X) (k : ℕ) → position p xs ≡ Some k → (k < length xs) × Unit {0} × Unit {0}
    any_some p [] k e = absurd (none-some k e)
    any_some p (x ∷ xs) k e = ((position-Some p (x ∷ xs) k x e).0, tt, tt)

text_there : (texts : List (List ℕ)) (i : ℕ) (t : List ℕ) → AllDiffer texts → slice_get texts i ≡ Some t → text_at t texts ≡ Some i
text_there texts i t differ at =
    position_at (λ x. bytes_eq x t) texts i t at ((bytes_eq-Decides t t).1 refl)
    (λ j y at_j same. differ j i t (at_j ∙ ap Some ((bytes_eq-Decides y t).0 same)) at)

-- ---- kinds

pub kind_found : (c : ChipData) → IsSound c → (k : ℕ) → k < length c.kinds → kind_at c (kind_text c k) ≡ Some k
kind_found c s k lt =
    let (t, at) = there c.kinds k lt in
    let is : kind_text c k ≡ t = ap (λ o. unwrap_or o []) at in
    ap (λ x. kind_at c x) is ∙ text_there c.kinds k t s.distinct_kinds at

-- ---- items

path_there : (c : ChipData) → IsSound c → (i : ℕ) → i < length c.paths → slice_get c.paths i ≡ Some (path_at c i)
path_there c s i lt = let (p, at) = there c.paths i lt in at ∙ ap Some (sym (ap (λ o. unwrap_or o []) at))

part_there : (c : ChipData) (from count k : ℕ) → k < count → slice_get (take count (drop from c.paths)) k ≡ slice_get c.paths (from + k)
part_there c from count k lt = get-take (drop from c.paths) k count lt ∙ get-drop c.paths from k

within_part : (c : ChipData) (from count k : ℕ) (t : List ℕ) → slice_get (take count (drop from c.paths)) k ≡ Some t → from + count ≤ length c.paths → k < count
within_part c from count k t at fits =
    let lt = slice_get_within (take count (drop from c.paths)) k t at in
    omega (arith, lt, length-take-le count (drop from c.paths) (omega (arith, length-drop from c.paths)))

part_differs : (c : ChipData) → IsSound c → (from count : ℕ) → from + count ≤ length c.paths → AllDiffer (take count (drop from c.paths))
part_differs c s from count fits i j t at_i at_j =
    let lt_i = within_part c from count i t at_i fits in
    let lt_j = within_part c from count j t at_j fits in
    let same = s.distinct_paths (from + i) (from + j) t (sym (part_there c from count i lt_i) ∙ at_i) (sym (part_there c from count j lt_j) ∙ at_j) in
    omega (arith, same)

pub item_found : (c : ChipData) → IsSound c → (item : Item) → HasItem c item → item_at c (path_of_item c item) ≡ Some item
item_found c s (Reg n) lt =
    let at = path_there c s (c.scopes + n) (omega (arith, lt, s.paths)) in
    let fits : c.scopes + length c.regs ≤ length c.paths = omega (arith, s.paths) in
    let found = text_there (reg_paths c) n (path_of_item c (Reg n)) (part_differs c s c.scopes (length c.regs) fits) (part_there c c.scopes (length c.regs) n lt ∙ at) in
    rw found refl
item_found c s (Mem n) lt =
    let path = path_of_item c (Mem n) in
    let at = path_there c s (c.scopes + length c.regs + n) (omega (arith, lt, s.paths)) in
    let regs_fit : c.scopes + length c.regs ≤ length c.paths = omega (arith, s.paths) in
    let fits : (c.scopes + length c.regs) + length c.mems ≤ length c.paths = omega (arith, s.paths) in
    let none : text_at path (reg_paths c) ≡ None =
    by_none (λ x. bytes_eq x path) (reg_paths c) (text_at path (reg_paths c)) refl (λ j y at_j same.
    let lt_j = within_part c c.scopes (length c.regs) j y at_j regs_fit in
    let there_j = sym (part_there c c.scopes (length c.regs) j lt_j) ∙ at_j ∙ ap Some ((bytes_eq-Decides y path).0 same) in
    let one = s.distinct_paths (c.scopes + j) (c.scopes + length c.regs + n) path there_j at in
    omega (arith, one, lt_j)) in
    let found = text_there (mem_paths c) n path (part_differs c s (c.scopes + length c.regs) (length c.mems) fits) (part_there c (c.scopes + length c.regs) (length c.mems) n lt ∙ at) in
    rw (none, found) refl

-- ---- fields

same_field : (c : ChipData) → IsSound c → (i j : ℕ) (f g : FieldSeen) → slice_get c.fields i ≡ Some f → slice_get c.fields j ≡ Some g → field_path c g ≡ field_path c f → j ≡ i
same_field c s i j f g at_i at_j same =
    let fits_f = s.each_field i f at_i in
    let fits_g = s.each_field j g at_j in
    let front_f = path_at c (c.scopes + f.shape.reg) in
    let front_g = path_at c (c.scopes + g.shape.reg) in
    let dot_f = last_dot-append front_f f.name (no_dot f.name fits_f.2) in
    let dot_g = last_dot-append front_g g.name (no_dot g.name fits_g.2) in
    let long : length front_g ≡ length front_f = same_Some _ _ (sym dot_g ∙ ap last_dot same ∙ dot_f) in
    let front : front_g ≡ front_f =
    sym (take_front front_g (46 ∷ g.name)) ∙ ap (λ n. take n (field_path c g)) long ∙ ap (take (length front_f)) same ∙ take_front front_f (46 ∷ f.name) in
    let name : g.name ≡ f.name =
    sym (drop_after front_g 46 g.name) ∙ ap (λ n. drop (n + 1) (field_path c g)) long ∙ ap (drop (length front_f + 1)) same ∙ drop_after front_f 46 f.name in
    let (r, at_r, _) = some_is (slice_get c.regs f.shape.reg) (IsFieldOf i f.shape) fits_f.0 in
    let (q, at_q, _) = some_is (slice_get c.regs g.shape.reg) (IsFieldOf j g.shape) fits_g.0 in
    let lt_f : f.shape.reg < length c.regs = slice_get_within c.regs f.shape.reg r at_r in
    let lt_g : g.shape.reg < length c.regs = slice_get_within c.regs g.shape.reg q at_q in
    let there_f = path_there c s (c.scopes + f.shape.reg) (omega (arith, lt_f, s.paths)) in
    let there_g = path_there c s (c.scopes + g.shape.reg) (omega (arith, lt_g, s.paths)) in
    let place = s.distinct_paths (c.scopes + g.shape.reg) (c.scopes + f.shape.reg) front_f (there_g ∙ ap Some front) there_f in
    let reg : g.shape.reg ≡ f.shape.reg = omega (arith, place) in
    elim (cases_lt i j) [
      | inl before ↦ absurd ((s.apart i j f g at_i at_j before (sym reg)).0 (sym name))
      | inr other ↦ elim (cases_lt j i) [
        | inl after ↦ absurd ((s.apart j i g f at_j at_i after reg).0 name)
        | inr not_after ↦ omega (arith, other, not_after)
      ]
    ]

pub field_found : (c : ChipData) → IsSound c → (i : ℕ) → i < length c.fields → field_at c (field_name c i) ≡ Some i
field_found c s i lt =
    let (f, at) = there c.fields i lt in
    let is : field_name c i ≡ field_path c f = ap (λ o. unwrap_or (option_map (field_path c) o) []) at in
    ap (λ x. field_at c x) is
    ∙ position_at (λ g. bytes_eq (field_path c g) (field_path c f)) c.fields i f at ((bytes_eq-Decides (field_path c f) (field_path c f)).1 refl)
    (λ j g at_j same. same_field c s i j f g at at_j ((bytes_eq-Decides (field_path c g) (field_path c f)).0 same))
