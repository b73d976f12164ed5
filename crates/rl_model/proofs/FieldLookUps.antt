-- A field by its register and name, and by its path.
use Rattle.std.proofs.Common.{◌≡◌, ◌↔◌, ℕ, length-take-le, length-drop, ◌+◌, ◌-◌, ◌<◌, Bool, true, false, nat_lt, List, [], ◌∷◌, ◌++◌, length, take, drop}
use Rattle.std.proofs.Common.{slice_get, position, Option, Some, None, option_map, is_some, unwrap_or, IsSomeAnd, refl, sym, ap, ◌∙◌, inl, inr, arith, bytes_eq}
use Rattle.std.proofs.lemmas.Bool.{cases_Bool, false≢true}
use Rattle.std.proofs.lemmas.Bool.Decides.{nat_tests}
use Rattle.std.proofs.lemmas.Slice.Eq.{bytes_eq-Decides}
use Rattle.std.proofs.lemmas.Option.{none-some, same_Some, get_or_from_slice_get, slice_get_within}
use Rattle.std.proofs.lemmas.List.Quantifiers.{position-Some}
use Rattle.std.specs.List.{list_any}
use Rattle.rl_policy.specs.declared.policy.Policy.TheVariants as policy
use Rattle.rl_model.specs.declared.rows.RegRow.{RegRow}
use Rattle.rl_model.specs.Rows.{FieldSeen, ChipData}
use Rattle.rl_model.specs.Fields.{no_field}
use Rattle.rl_model.specs.Chip.{IsSound, IsNamed, IsFieldOf, field_path, path_at, last_dot}
use Rattle.rl_model.proofs.PathLemmas.{any-position}
use Rattle.rl_model.proofs.SoundLemmas.{there, none_at, get-take, get-drop}
use Rattle.rl_model.proofs.Sound.{some_holds}
use Rattle.rl_model.proofs.Dots.{last_dot-append, no_dot, split_at_dot, take_front, drop_after}

pub some_is : {X : Type 0} (o : Option X) (P : X → Type 0) → IsSomeAnd o P → (x : X) × (o ≡ Some x) × P x
some_is None P h = absurd h
some_is (Some x) P h = (x, refl, h)

-- the register's k-th field
pub record IsPlace (c : ChipData) (row : RegRow) (name : List ℕ) (n : ℕ) : Type 0 where
  pub place : ℕ
  pub field : FieldSeen
  pub counted : n ≡ row.first + place
  pub within : place < row.count
  pub at : slice_get c.fields n ≡ Some field
  pub named : field.name ≡ name

place_of_named : (c : ChipData) → IsSound c → (reg : ℕ) (row : RegRow) (name : List ℕ) (n : ℕ) → slice_get c.regs reg ≡ Some row → IsNamed c reg name n → IsPlace c row name n
place_of_named c s reg row name n at_reg named =
    let (f, at, same) = some_is (slice_get c.fields n) (λ f. (f.shape.reg ≡ reg) × (f.name ≡ name)) named in
    let (r, at_r, inside) = some_is (slice_get c.regs f.shape.reg) (IsFieldOf n f.shape) (s.each_field n f at).0 in
    let row_is : r ≡ row = same_Some r row (sym at_r ∙ (ap (λ (k : ℕ). slice_get c.regs k) same.0 ∙ at_reg)) in
    let first_is = ap (λ (r : RegRow). r.first) row_is in
    let count_is = ap (λ (r : RegRow). r.count) row_is in
    record {
      place = n - row.first;
      field = f;
      counted = omega (arith, first_is, inside.0);
      within = omega (arith, first_is, count_is, inside.0, inside.1);
      at = at;
      named = same.1;
    }

abbrev has_name : List ℕ → FieldSeen → Bool
has_name name f = bytes_eq f.name name

-- the fields of the row
pub record AreOwn (c : ChipData) (row : RegRow) (own : List FieldSeen) : Type 0 where
  pub count : length own ≡ row.count
  pub each : (k : ℕ) → k < row.count → slice_get own k ≡ slice_get c.fields (row.first + k)

named_None : (c : ChipData) → IsSound c → (reg : ℕ) (row : RegRow) (own : List FieldSeen) (name : List ℕ) → slice_get c.regs reg ≡ Some row → AreOwn c row own
    → position (has_name name) own ≡ None → (n : ℕ) → (None ≡ Some n) ↔ IsNamed c reg name n
named_None c s reg row own name at_reg o none n = (
  λ e. absurd (none-some n e),
  λ named.
      let p = place_of_named c s reg row name n at_reg named in
      let at_own : slice_get own p.place ≡ Some p.field = o.each p.place p.within ∙ (ap (λ (k : ℕ). slice_get c.fields k) (sym p.counted) ∙ p.at) in
      let off : list_any (has_name name) own ≡ false = any-position (has_name name) own ∙ ap (λ (r : Option ℕ). is_some r) none in
      absurd (false≢true (sym (none_at (has_name name) own p.place p.field off at_own) ∙ (bytes_eq-Decides p.field.name name).1 p.named)),
)

named_Some : (c : ChipData) → IsSound c → (reg : ℕ) (row : RegRow) (own : List FieldSeen) (name : List ℕ) (place : ℕ) → slice_get c.regs reg ≡ Some row → AreOwn c row own
    → position (has_name name) own ≡ Some place → (n : ℕ) → (Some (row.first + place) ≡ Some n) ↔ IsNamed c reg name n
named_Some c s reg row own name place at_reg o found n =
    let lt_own : place < length own = (position-Some (has_name name) own place none_field found).0 in
    let lt : place < row.count = omega (arith, o.count, lt_own) in
    let (f, at_own) = there own place lt_own in
    let facts = position-Some (has_name name) own place f found in
    let hit : bytes_eq f.name name ≡ true = ap (has_name name) (sym (get_or_from_slice_get own place f f at_own)) ∙ facts.1 in
    let named_f : f.name ≡ name = (bytes_eq-Decides f.name name).0 hit in
    let at_f : slice_get c.fields (row.first + place) ≡ Some f = sym (o.each place lt) ∙ at_own in
    let reg_f : f.shape.reg ≡ reg = s.owned reg (row.first + place) row f at_reg at_f (omega arith) (omega arith) in (
      λ e. some_holds (slice_get c.fields n) f (λ f. (f.shape.reg ≡ reg) × (f.name ≡ name)) (ap (λ (k : ℕ). slice_get c.fields k) (sym (same_Some (row.first + place) n e)) ∙ at_f) (reg_f, named_f),
      λ named.
          let p = place_of_named c s reg row name n at_reg named in
          let reg_p : p.field.shape.reg ≡ reg = s.owned reg n row p.field at_reg p.at (omega (arith, p.counted)) (omega (arith, p.counted, p.within)) in
          let same : row.first + place ≡ n =
          elim (cases_Bool (nat_lt n (row.first + place))) [
            | inl before ↦
                let lt_n : n < row.first + place = grind (arith, nat_tests) in
                absurd ((s.apart n (row.first + place) p.field f p.at at_f lt_n (reg_p ∙ sym reg_f)).0 (p.named ∙ sym named_f))
            | inr not_before ↦
                elim (cases_Bool (nat_lt (row.first + place) n)) [
                  | inl after ↦
                      let lt_n : row.first + place < n = grind (arith, nat_tests) in
                      absurd ((s.apart (row.first + place) n f p.field at_f p.at lt_n (reg_f ∙ sym reg_p)).0 (named_f ∙ sym p.named))
                  | inr not_after ↦ grind (arith, nat_tests)
                ]
          ] in
          ap (λ (k : ℕ). Some k) same,
    )
  where
    none_field : FieldSeen
    none_field = record {
      shape = record { reg = 0; lsb = 0; width = 0; policy = policy.Ro; volatile = false; compare = false; alone = false };
      name = [];
      resets = [];
    }

-- ---- by path

abbrev pub HasPath : ChipData → List ℕ → ℕ → Type 0
HasPath c path n = option_map (field_path c) (slice_get c.fields n) ≡ Some path

abbrev pub FindsReg : ChipData → List ℕ → Option ℕ → Type 0
FindsReg c path result = (m : ℕ) → (result ≡ Some m) ↔ ((m < length c.regs) × (slice_get c.paths (c.scopes + m) ≡ Some path))

-- a field whose path is this
pub record Splits (c : ChipData) (path : List ℕ) (n : ℕ) : Type 0 where
  pub field : FieldSeen
  pub at : slice_get c.fields n ≡ Some field
  pub dot : last_dot path ≡ Some (length (path_at c (c.scopes + field.shape.reg)))
  pub reg : field.shape.reg < length c.regs
  pub before : slice_get c.paths (c.scopes + field.shape.reg) ≡ Some (take (length (path_at c (c.scopes + field.shape.reg))) path)
  pub after : field.name ≡ drop (length (path_at c (c.scopes + field.shape.reg)) + 1) path

mapped : {X : Type 0} (v : X → List ℕ) (o : Option X) (y : List ℕ) → option_map v o ≡ Some y → (x : X) × (o ≡ Some x) × (v x ≡ y)
mapped v None y h = absurd (none-some y h)
mapped v (Some x) y h = (x, refl, same_Some (v x) y h)

splits : (c : ChipData) → IsSound c → (path : List ℕ) (n : ℕ) → HasPath c path n → Splits c path n
splits c s path n has =
    let (f, at, is) = mapped (field_path c) (slice_get c.fields n) path has in
    let fits = s.each_field n f at in
    let (r, at_r, _) = some_is (slice_get c.regs f.shape.reg) (IsFieldOf n f.shape) fits.0 in
    let lt : f.shape.reg < length c.regs = slice_get_within c.regs f.shape.reg r at_r in
    let front = path_at c (c.scopes + f.shape.reg) in
    let (p, at_p) = there c.paths (c.scopes + f.shape.reg) (omega (arith, s.paths)) in
    let front_is : front ≡ p = ap (λ (o : Option (List ℕ)). unwrap_or o []) at_p in
    record {
      field = f;
      at = at;
      dot = ap last_dot (sym is) ∙ last_dot-append front f.name (no_dot f.name fits.2);
      reg = lt;
      before = at_p ∙ (ap (λ (l : List ℕ). Some l) (sym front_is) ∙ ap (λ (l : List ℕ). Some l) (sym (take_front front (46 ∷ f.name)) ∙ ap (λ (l : List ℕ). take (length front) l) is));
      after = sym (drop_after front 46 f.name) ∙ ap (λ (l : List ℕ). drop (length front + 1) l) is;
    }

pub by_path_no_dot : (c : ChipData) → IsSound c → (path : List ℕ) → last_dot path ≡ None → (n : ℕ) → (None ≡ Some n) ↔ HasPath c path n
by_path_no_dot c s path none n = (
  λ e. absurd (none-some n e),
  λ has. absurd (none-some _ (sym none ∙ (splits c s path n has).dot)),
)

pub by_path_no_reg : (c : ChipData) → IsSound c → (path : List ℕ) (dot : ℕ) → last_dot path ≡ Some dot → FindsReg c (take dot path) None → (n : ℕ) → (None ≡ Some n) ↔ HasPath c path n
by_path_no_reg c s path dot is regs n = (
  λ e. absurd (none-some n e),
  λ has.
      let f = splits c s path n has in
      let dot_is = same_Some _ dot (sym f.dot ∙ is) in
      absurd (none-some _ ((regs f.field.shape.reg).1 (f.reg, f.before ∙ ap (λ (k : ℕ). Some (take k path)) dot_is))),
)

pub by_path : (c : ChipData) → IsSound c → (path : List ℕ) (dot reg : ℕ) (result : Option ℕ) → last_dot path ≡ Some dot → FindsReg c (take dot path) (Some reg)
    → ((n : ℕ) → (result ≡ Some n) ↔ IsNamed c reg (drop (dot + 1) path) n) → (n : ℕ) → (result ≡ Some n) ↔ HasPath c path n
by_path c s path dot reg result is regs named n = (
  λ found.
      let (f, at, same) = some_is (slice_get c.fields n) (λ f. (f.shape.reg ≡ reg) × (f.name ≡ drop (dot + 1) path)) ((named n).0 found) in
      let front : slice_get c.paths (c.scopes + f.shape.reg) ≡ Some (take dot path) = ap (λ (k : ℕ). slice_get c.paths (c.scopes + k)) same.0 ∙ ((regs reg).0 refl).1 in
      let front_is : path_at c (c.scopes + f.shape.reg) ≡ take dot path = ap (λ (o : Option (List ℕ)). unwrap_or o []) front in
      let whole : field_path c f ≡ path = ap (λ (l : List ℕ). l ++ 46 ∷ f.name) front_is ∙ (ap (λ (l : List ℕ). take dot path ++ 46 ∷ l) same.1 ∙ sym (split_at_dot path dot is)) in
      ap (λ (o : Option FieldSeen). option_map (field_path c) o) at ∙ ap (λ (l : List ℕ). Some l) whole,
  λ has.
      let f = splits c s path n has in
      let dot_is = same_Some _ dot (sym f.dot ∙ is) in
      let reg_is : reg ≡ f.field.shape.reg = same_Some reg _ ((regs f.field.shape.reg).1 (f.reg, f.before ∙ ap (λ (k : ℕ). Some (take k path)) dot_is)) in
      (named n).1 (some_holds (slice_get c.fields n) f.field (λ f. (f.shape.reg ≡ reg) × (f.name ≡ drop (dot + 1) path)) f.at (sym reg_is, f.after ∙ ap (λ (k : ℕ). drop (k + 1) path) dot_is)),
)

-- ---- the fields of a register, as a part of all fields

own_fields : (c : ChipData) → IsSound c → (reg : ℕ) (row : RegRow) → slice_get c.regs reg ≡ Some row → AreOwn c row (take (row.first + row.count - row.first) (drop row.first c.fields))
own_fields c s reg row at =
    let fits = s.each_reg reg row at in
    record {
      count = omega (arith, length-take-le (row.first + row.count - row.first) (drop row.first c.fields), length-drop row.first c.fields, fits.2);
      each = λ k lt. get-take (drop row.first c.fields) k (row.first + row.count - row.first) (omega arith) ∙ get-drop c.fields row.first k;
    }

-- a search in them by name
pub named_in : (c : ChipData) → IsSound c → (reg : ℕ) (row : RegRow) (name : List ℕ) (found : Option ℕ) → slice_get c.regs reg ≡ Some row
    → position (has_name name) (take (row.first + row.count - row.first) (drop row.first c.fields)) ≡ found
    → (n : ℕ) → (option_map (λ place. row.first + place) found ≡ Some n) ↔ IsNamed c reg name n
named_in c s reg row name None at none = named_None c s reg row _ name at (own_fields c s reg row at) none
named_in c s reg row name (Some place) at found = named_Some c s reg row _ name place at (own_fields c s reg row at) found

-- a place among a register's fields, counted from its first one, is a field
pub place_within : (c : ChipData) → IsSound c → (reg : ℕ) (row : RegRow) (name : List ℕ) (place : ℕ) → slice_get c.regs reg ≡ Some row
    → position (has_name name) (take (row.first + row.count - row.first) (drop row.first c.fields)) ≡ Some place → row.first + place < length c.fields
place_within c s reg row name place at found =
    let own = own_fields c s reg row at in
    omega (arith, own.count, (position-Some (has_name name) _ place no_field found).0, (s.each_reg reg row at).2)
