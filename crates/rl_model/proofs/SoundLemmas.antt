-- What holds of a chip whose parts have no fault.
use Rattle.std.proofs.Common.{◌≡◌, ℕ, zero, suc, ◌+◌, ◌-◌, ◌*◌, ◌^◌, ◌<◌, ◌≤◌, Bool, true, false, not, ◌||◌, ◌&&◌, nat_lt, nat_le, List, [], ◌∷◌, ◌++◌}
use Rattle.std.proofs.Common.{length, map, take, drop, slice_get, Option, Some, None, option_map, refl, sym, ◌∙◌, inl, inr, arith, length-append, bytes_eq}
use Rattle.std.proofs.lemmas.Bool.{cases_Bool}
use Rattle.std.proofs.lemmas.Bool.Decides.{nat_tests}
use Rattle.std.proofs.lemmas.Option.{none-some, same_Some, slice_get-map}
use Rattle.std.proofs.lemmas.List.{length-map}
use Rattle.std.specs.List.{list_any, list_all}
use Rattle.rl_model.specs.declared.fault.Array.TheVariants as array
use Rattle.rl_model.specs.declared.fault.Spot.{Spot}
use Rattle.rl_model.specs.declared.fault.ModelCause.TheVariants.{BadWidth}
use Rattle.rl_model.specs.declared.fault.ModelFault.TheVariants.{Bad}
use Rattle.rl_model.specs.declared.rows.RegRow.{RegRow}
use Rattle.rl_model.specs.Data.{FieldData, RegData}
use Rattle.rl_model.specs.Rows.{FieldSeen}
use Rattle.rl_model.specs.Rules.{Check, first_failing, first_of, or_else, repeats, field_of, row_of, is_name, overlaps, field_checks, kinds_with, kinds_after}
use Rattle.rl_model.specs.Rules.{fields_fault, is_bad_width, reg_path, regs_fault}
use Rattle.rl_model.specs.Build.{field_seen, all_fields, reg_seen, regs_seen}

-- ---- conditions that did not fail

pub none_fails : {Cause Fault : Type 0} (fault : Cause → Fault) (cs : List (Bool × Cause)) → first_failing fault cs ≡ None → (k : ℕ) (c : Bool × Cause) → slice_get cs k ≡ Some c → c.0 ≡ false
none_fails fault [] h k c at = absurd (none-some c at)
none_fails fault (d ∷ ds) h zero c at =
    elim (cases_Bool d.0) [
      | inl fails ↦ let bad = rw fails at h in absurd (let no : ⊥ = cc in no)
      | inr holds ↦ rw (← same_Some _ _ at) holds
    ]
none_fails fault (d ∷ ds) h (suc k) c at =
    elim (cases_Bool d.0) [
      | inl fails ↦ let bad = rw fails at h in absurd (let no : ⊥ = cc in no)
      | inr holds ↦ none_fails fault ds (rw holds at h) k c at
    ]

pub passed : (spot : Spot) (cs : List Check) → first_of spot cs ≡ None → (k : ℕ) (c : Check) → slice_get cs k ≡ Some c → c.0 ≡ false
passed spot = none_fails (λ cause. Bad cause spot)

pub both_None : {X : Type 0} (a b : Option X) → or_else a b ≡ None → (a ≡ None) × (b ≡ None)
both_None None b h = (refl, h)
both_None (Some x) b h = absurd (let no : ⊥ = cc in no)

-- ---- elements of lists

pub get-front : {X : Type 0} (xs ys : List X) (i : ℕ) → i < length xs → slice_get (xs ++ ys) i ≡ slice_get xs i
get-front [] ys i h = absurd (omega arith)
get-front (x ∷ xs) ys zero h = refl
get-front (x ∷ xs) ys (suc i) h = get-front xs ys i (omega arith)

pub get-back : {X : Type 0} (xs ys : List X) (i j : ℕ) → i ≡ length xs + j → slice_get (xs ++ ys) i ≡ slice_get ys j
get-back [] ys i j h = let e : i ≡ j = omega arith in rw e
get-back (x ∷ xs) ys zero j h = absurd (omega arith)
get-back (x ∷ xs) ys (suc i) j h = get-back xs ys i j (omega arith)

pub get-take : {X : Type 0} (xs : List X) (k j : ℕ) → k < j → slice_get (take j xs) k ≡ slice_get xs k
get-take xs k zero h = absurd (omega arith)
get-take [] k (suc j) h = refl
get-take (x ∷ xs) zero (suc j) h = refl
get-take (x ∷ xs) (suc k) (suc j) h = get-take xs k j (omega arith)

pub get-drop : {X : Type 0} (xs : List X) (a k : ℕ) → slice_get (drop a xs) k ≡ slice_get xs (a + k)
get-drop xs zero k = let e : 0 + k ≡ k = omega arith in rw e
get-drop [] (suc a) k = refl
get-drop (x ∷ xs) (suc a) k = let e : suc a + k ≡ suc (a + k) = omega arith in rw e (get-drop xs a k)

pub there : {X : Type 0} (xs : List X) (i : ℕ) → i < length xs → (x : X) × (slice_get xs i ≡ Some x)
there [] i h = absurd (omega arith)
there (x ∷ xs) zero h = (x, refl)
there (x ∷ xs) (suc i) h = there xs i (omega arith)

pub none_at : {X : Type 0} (p : X → Bool) (xs : List X) (k : ℕ) (x : X) → list_any p xs ≡ false → slice_get xs k ≡ Some x → p x ≡ false
none_at p [] k x h at = absurd (none-some x at)
none_at p (y ∷ ys) zero x h at =
    elim (cases_Bool (p y)) [
      | inl yes_y ↦ let no = rw yes_y at h in absurd (let bad : ⊥ = cc in bad)
      | inr no_y ↦ rw (← same_Some _ _ at) no_y
    ]
none_at p (y ∷ ys) (suc k) x h at =
    elim (cases_Bool (p y)) [
      | inl yes_y ↦ let no = rw yes_y at h in absurd (let bad : ⊥ = cc in bad)
      | inr no_y ↦ none_at p ys k x (rw no_y at h) at
    ]

-- ---- a field that passes

pub record FieldPasses (bytes : ℕ) (earlier : List FieldData) (f : FieldData) : Type 0 where
  pub named : is_name f.name ≡ true
  pub unlike : list_any (λ g. bytes_eq f.name g.name) earlier ≡ false
  pub once : repeats f.resets ≡ false
  pub low : 1 ≤ f.width
  pub high : f.width ≤ 64
  pub inside : f.lsb + f.width ≤ 8 * bytes
  pub apart : list_any (overlaps f) earlier ≡ false
  pub fits : list_any (λ r. nat_le (2 ^ f.width) r.value) f.resets ≡ false

passes : (spot : Spot) (bytes : ℕ) (earlier : List FieldData) (f : FieldData) → first_of spot (field_checks bytes earlier f) ≡ None → FieldPasses bytes earlier f
passes spot bytes earlier f h =
    let all = passed spot (field_checks bytes earlier f) h in
    let names : not (is_name f.name && list_all (λ r. is_name r.kind) f.resets) ≡ false = all 0 _ refl in
    let unlike : (list_any (λ g. bytes_eq f.name g.name) earlier || repeats f.resets) ≡ false = all 1 _ refl in
    let width : (nat_lt f.width 1 || nat_lt 64 f.width) ≡ false = all 2 _ refl in
    let outside : nat_lt (8 * bytes) (f.lsb + f.width) ≡ false = all 3 _ refl in
    record {
      named = grind (arith, nat_tests);
      unlike = grind (arith, nat_tests);
      once = grind (arith, nat_tests);
      low = grind (arith, nat_tests);
      high = grind (arith, nat_tests);
      inside = grind (arith, nat_tests);
      apart = all 4 _ refl;
      fits = all 5 _ refl;
    }

pub each_field : (spot : Spot) (r : RegData) (i : ℕ) (kinds : List (List ℕ)) (fs : List FieldData) (k : ℕ) (f : FieldData) → fields_fault spot r i kinds fs ≡ None → slice_get fs k ≡ Some f
    → (j : ℕ) → j ≡ i + k → FieldPasses r.bytes (take j r.fields) f
each_field spot r i kinds [] k f h at j e = absurd (none-some f at)
each_field spot r i kinds (g ∷ gs) zero f h at j e =
    let here : i ≡ j = omega arith in
    let step = both_None _ _ h in
    let own = both_None _ _ step.0 in
    rw (← here, ← same_Some _ _ at) (passes (field_of spot i) r.bytes (take i r.fields) g own.0)
each_field spot r i kinds (g ∷ gs) (suc k) f h at j e =
    let next : j ≡ (i + 1) + k = omega arith in
    let step = both_None _ _ h in
    each_field spot r (i + 1) (kinds_with kinds g.resets) gs k f step.1 at j next

-- ---- a register that passes

pub regs_step : (i scopes : ℕ) (paths kinds : List (List ℕ)) (r : RegData) (rs : List RegData) → regs_fault i scopes paths kinds (r ∷ rs) ≡ None
    → (fields_fault (row_of array.Reg i) r 0 kinds r.fields ≡ None) × (is_bad_width r.bytes ≡ false)
    × (regs_fault (i + 1) scopes (paths ++ reg_path r ∷ []) (kinds_after kinds r.fields) rs ≡ None)
regs_step i scopes paths kinds r rs h =
    let step = both_None _ _ h in
    let own = both_None _ _ step.0 in
    let fields = both_None _ _ own.1 in
    (fields.1, passed (row_of array.Reg i) ((is_bad_width r.bytes, BadWidth) ∷ []) fields.0 0 _ refl, step.1)

-- ---- where a field stands

-- field i of the registers rs, which are numbered from reg on and whose fields are counted from first on
pub record Located (reg first : ℕ) (all : List (List ℕ)) (rs : List RegData) (i : ℕ) (f : FieldSeen) : Type 0 where
  pub number : ℕ
  pub owner : RegData
  pub start : ℕ
  pub place : ℕ
  pub part : FieldData
  pub here : slice_get rs number ≡ Some owner
  pub row : slice_get (regs_seen first rs) number ≡ Some (reg_seen start owner)
  pub within : place < length owner.fields
  pub counted : first + i ≡ start + place
  pub is_part : slice_get owner.fields place ≡ Some part
  pub is : f ≡ field_seen (reg + number) all part
  pub passes_all : FieldPasses owner.bytes (take place owner.fields) part

pub located : (reg first scopes : ℕ) (paths kinds all : List (List ℕ)) (rs : List RegData) (i : ℕ) (f : FieldSeen) → regs_fault reg scopes paths kinds rs ≡ None →
    slice_get (all_fields reg all rs) i ≡ Some f
    → Located reg first all rs i f
located reg first scopes paths kinds all [] i f h at = absurd (none-some f at)
located reg first scopes paths kinds all (r ∷ rs) i f h at =
    let step = regs_step reg scopes paths kinds r rs h in
    let mine = map (field_seen reg all) r.fields in
    let rest = all_fields (reg + 1) all rs in
    elim (cases_Bool (nat_lt i (length r.fields))) [
      | inl inside ↦
          let lt : i < length r.fields = grind (arith, nat_tests) in
          let lt_mine : i < length mine = rw (length-map r.fields (field_seen reg all)) lt in
          let (p, is_p) = there r.fields i lt in
          let got : slice_get mine i ≡ Some f = sym (get-front mine rest i lt_mine) ∙ at in
          let seen : option_map (field_seen reg all) (slice_get r.fields i) ≡ Some f = sym (slice_get-map (field_seen reg all) r.fields i) ∙ got in
          let seen_p : Some (field_seen reg all p) ≡ Some f = rw is_p at seen in
          let reg_is : reg + 0 ≡ reg = omega arith in
          record {
            number = 0;
            owner = r;
            start = first;
            place = i;
            part = p;
            here = refl;
            row = refl;
            within = lt;
            counted = refl;
            is_part = is_p;
            is = rw reg_is (sym (same_Some (field_seen reg all p) f seen_p));
            passes_all = each_field (row_of array.Reg reg) r 0 kinds r.fields i p step.0 is_p i (omega arith);
          }
      | inr outside ↦
          let ge : length r.fields ≤ i = grind (arith, nat_tests) in
          let count : length mine ≡ length r.fields = length-map r.fields (field_seen reg all) in
          let got : slice_get rest (i - length r.fields) ≡ Some f = sym (get-back mine rest i (i - length r.fields) (omega arith)) ∙ at in
          let sub = located (reg + 1) (first + length r.fields) scopes (paths ++ reg_path r ∷ []) (kinds_after kinds r.fields) all rs (i - length r.fields) f step.2 got in
          let reg_is : reg + suc sub.number ≡ (reg + 1) + sub.number = omega arith in
          record {
            number = suc sub.number;
            owner = sub.owner;
            start = sub.start;
            place = sub.place;
            part = sub.part;
            here = sub.here;
            row = sub.row;
            within = sub.within;
            counted = omega (arith, sub.counted);
            is_part = sub.is_part;
            is = rw reg_is sub.is;
            passes_all = sub.passes_all;
          }
    ]

-- ---- the rows of registers

pub starts_later : (first : ℕ) (rs : List RegData) (n : ℕ) (a : RegRow) → slice_get (regs_seen first rs) n ≡ Some a → first ≤ a.first
starts_later first [] n a at = absurd (none-some a at)
starts_later first (r ∷ rs) zero a at = rw (← same_Some _ _ at) (omega arith)
starts_later first (r ∷ rs) (suc n) a at = omega (arith, starts_later (first + length r.fields) rs n a at)

pub in_order : (first : ℕ) (rs : List RegData) (n m : ℕ) (a b : RegRow) → slice_get (regs_seen first rs) n ≡ Some a → slice_get (regs_seen first rs) m ≡ Some b → n < m → a.first + a.count ≤ b.first
in_order first [] n m a b at_n at_m lt = absurd (none-some a at_n)
in_order first (r ∷ rs) n zero a b at_n at_m lt = absurd (omega arith)
in_order first (r ∷ rs) zero (suc m) a b at_n at_m lt = rw (← same_Some _ _ at_n) (starts_later (first + length r.fields) rs m b at_m)
in_order first (r ∷ rs) (suc n) (suc m) a b at_n at_m lt = in_order (first + length r.fields) rs n m a b at_n at_m (omega arith)

pub row_fits : (reg first scopes : ℕ) (paths kinds all : List (List ℕ)) (rs : List RegData) (n : ℕ) (a : RegRow) → regs_fault reg scopes paths kinds rs ≡ None →
    slice_get (regs_seen first rs) n ≡ Some a
    → (1 ≤ a.bytes) × (a.bytes ≤ 8) × (a.first + a.count ≤ first + length (all_fields reg all rs))
row_fits reg first scopes paths kinds all [] n a h at = absurd (none-some a at)
row_fits reg first scopes paths kinds all (r ∷ rs) zero a h at =
    let wide = (regs_step reg scopes paths kinds r rs h).1 in
    let low : 1 ≤ r.bytes = grind (arith, nat_tests) in
    let high : r.bytes ≤ 8 = grind (arith, nat_tests) in
    rw (← same_Some _ _ at) (low, high, omega (arith, length-append (map (field_seen reg all) r.fields) (all_fields (reg + 1) all rs), length-map r.fields (field_seen reg all)))
row_fits reg first scopes paths kinds all (r ∷ rs) (suc n) a h at =
    let step = regs_step reg scopes paths kinds r rs h in
    let sub = row_fits (reg + 1) (first + length r.fields) scopes (paths ++ reg_path r ∷ []) (kinds_after kinds r.fields) all rs n a step.2 at in
    (sub.0, sub.1, omega (arith, sub.2, length-append (map (field_seen reg all) r.fields) (all_fields (reg + 1) all rs), length-map r.fields (field_seen reg all)))
