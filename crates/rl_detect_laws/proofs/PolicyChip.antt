-- A chip in which one field has another policy: it is built as the first one, and has the same bits.
use Rattle.std.proofs.Common.{◌≡◌, ℕ, zero, suc, ◌+◌, ◌-◌, ◌^◌, ◌<◌, ◌≤◌, nat_lt, Bool, not, cond, List, [], ◌∷◌, ◌++◌, length, map, get_or, set, take, drop, None, Some, refl, sym, ap, ◌∙◌, subst, inl, inr}
use Rattle.std.specs.List.{position_or_len}
use Rattle.std.specs.Prelude.{position, slice_get}
use Rattle.std.proofs.Math.Seq.{map-set_same}
use Rattle.std.proofs.lemmas.List.{get_or-set_same, length-map, length-set, map-set, take-map, drop-map}
use Rattle.rl_policy.specs.declared.policy.Policy.{Policy}
use Rattle.rl_bus.specs.Setup.{Setup}
use Rattle.rl_model.specs.declared.rows.Field.{Field}
use Rattle.rl_model.specs.Rows.{FieldSeen, ChipData}
use Rattle.rl_model.specs.Chip.{IsSound, HasParent, FieldFits, AreApart, ResetFits, path_at}
use Rattle.rl_model.specs.Fields.{no_field, field_of, first_of, count_of, fields_of, policy_in, place_at, covers}
use Rattle.rl_map.specs.Layout.{LayoutData}
use Rattle.rl_map.specs.Tables.{field_row, reset_rows, setup_of}
use Rattle.rl_split.specs.Law.{no_flaws}
use Rattle.rl_mirror.proofs.MirrorLemmas.{place_of}
use Rattle.rl_access.specs.Operation.{reg_of}
use Rattle.rl_detect_laws.proofs.Checks.{some_is}
use Rattle.rl_detect_laws.proofs.OtherPolicy.{with_policy}

abbrev shape_by : Field → Policy → Field
shape_by f q = record f { policy = q }

abbrev pub by_policy : FieldSeen → Policy → FieldSeen
by_policy f q = record f { shape = shape_by f.shape q }

-- the chip, with this policy of the field
abbrev pub having : ChipData → (field : ℕ) → Policy → ChipData
having c field q = record c { fields = set c.fields field (by_policy (field_of c field) q) }

-- ---- the device

resets_same : (n : ℕ) (fs : List FieldSeen) (k : ℕ) (q : Policy) → reset_rows n (set fs k (by_policy (get_or fs k no_field) q)) ≡ reset_rows n fs
resets_same n [] k q = refl
resets_same n (f ∷ fs) zero q = refl
resets_same n (f ∷ fs) (suc k) q = ap (λ rows. map (λ r. record { field = n; kind = r.kind; value = r.value }) f.resets ++ rows) (resets_same (n + 1) fs k q)

pub setup_having : (c : ChipData) (l : LayoutData) (field : ℕ) (q : Policy) → with_policy c l field q ≡ setup_of (having c field q) l no_flaws
unfolding setup_of
setup_having c l field q =
    let t = setup_of c l no_flaws in
    ap (λ rows. let u : Setup = record t { fields = rows } in u) (sym (map-set field_row c.fields field (by_policy (field_of c field) q)))
    ∙ ap (λ rows. let u : Setup = record t { fields = map field_row (set c.fields field (by_policy (field_of c field) q)); resets = rows } in u)
    (sym (resets_same 0 c.fields field q))

-- ---- its fields

-- each is one of the first chip's, maybe with another policy
pub like : (fs : List FieldSeen) (k i : ℕ) (q : Policy) (f : FieldSeen) → slice_get (set fs k (by_policy (get_or fs k no_field) q)) i ≡ Some f
    → (g : FieldSeen) × (slice_get fs i ≡ Some g) × (f ≡ by_policy g f.shape.policy)
like [] k i q f e = absurd (cc)
like (x ∷ fs) zero zero q f e =
    let is : by_policy x q ≡ f = some_is e in
    (x, refl, sym is ∙ ap (λ (y : FieldSeen). by_policy x y.shape.policy) is)
like (x ∷ fs) zero (suc i) q f e = (f, e, refl)
like (x ∷ fs) (suc k) zero q f e =
    let is : x ≡ f = some_is e in
    (x, refl, sym is ∙ ap (λ (y : FieldSeen). by_policy x y.shape.policy) is)
like (x ∷ fs) (suc k) (suc i) q f e = like fs k i q f e

-- what holds whatever the policy
whatever : (P : FieldSeen → Type 0) (f g : FieldSeen) → f ≡ by_policy g f.shape.policy → P (by_policy g f.shape.policy) → P f
whatever P f g is holds = subst P (sym is) holds

parent_having : (c : ChipData) (field : ℕ) (q : Policy) (path : List ℕ) → HasParent c path → HasParent (having c field q) path
parent_having c field q path (inl top) = inl top
parent_having c field q path (inr (s, within)) =
    inr (s, record { name = within.name; scope = within.scope; named = within.named; joined = within.joined })

pub having_sound : (c : ChipData) (field : ℕ) (q : Policy) → IsSound c → IsSound (having c field q)
having_sound c field q ok =
    let many : length (having c field q).fields ≡ length c.fields = length-set c.fields field (by_policy (field_of c field) q) in
    record {
      blocks = ok.blocks;
      scopes = ok.scopes;
      files = ok.files;
      regs = ok.regs;
      mems = ok.mems;
      fields = subst (λ n. n < 2 ^ 32) (sym many) ok.fields;
      kinds = ok.kinds;
      known_kinds = ok.known_kinds;
      two_kinds = ok.two_kinds;
      paths = ok.paths;
      each_reg = λ n r at. let fits = ok.each_reg n r at in (fits.0, fits.1, subst (λ k. r.first + r.count ≤ k) (sym many) fits.2);
      each_field = λ i f at.
          let was = like c.fields field i q f at in
          whatever (FieldFits c i) f was.0 was.2 (ok.each_field i was.0 was.1);
      owned = λ n i r f reg at low high.
          let was = like c.fields field i q f at in
          whatever (λ x. x.shape.reg ≡ n) f was.0 was.2 (ok.owned n i r was.0 reg was.1 low high);
      apart = λ i j f g at there low same.
          let was = like c.fields field i q f at in
          let its = like c.fields field j q g there in
          let regs : was.0.shape.reg ≡ its.0.shape.reg =
          sym (ap (λ (x : FieldSeen). x.shape.reg) was.2) ∙ same ∙ ap (λ (x : FieldSeen). x.shape.reg) its.2 in
          whatever (λ x. AreApart x g) f was.0 was.2 (whatever (λ y. AreApart (by_policy was.0 f.shape.policy) y) g its.0 its.2
          (ok.apart i j was.0 its.0 was.1 its.1 low regs));
      each_mem = ok.each_mem;
      locations = ok.locations;
      distinct_paths = ok.distinct_paths;
      distinct_kinds = ok.distinct_kinds;
      parents = λ i inside. parent_having c field q (path_at c i) (ok.parents i inside);
      deep = ok.deep;
      few_fields = ok.few_fields;
      all_fields = subst (λ n. n ≤ 65536) (sym many) ok.all_fields;
      firsts = ok.firsts;
      counts = many ∙ ok.counts;
      each_reset = λ i f k r at has.
          let was = like c.fields field i q f at in
          whatever (λ x. slice_get x.resets k ≡ Some r → ResetFits c x r) f was.0 was.2 (λ has. ok.each_reset i was.0 k r was.1 has) has;
      one_value = λ i f k n r s at has its same.
          let was = like c.fields field i q f at in
          whatever (λ x. slice_get x.resets k ≡ Some r → slice_get x.resets n ≡ Some s → k ≡ n) f was.0 was.2
          (λ has its. ok.one_value i was.0 k n r s was.1 has its same) has its;
    }

-- ---- its bits

same_len : (p : FieldSeen → Bool) (xs ys : List FieldSeen) → map p xs ≡ map p ys → position_or_len p xs ≡ position_or_len p ys
same_len p [] [] e = refl
same_len p [] (y ∷ ys) e = absurd (cc)
same_len p (x ∷ xs) [] e = absurd (cc)
same_len p (x ∷ xs) (y ∷ ys) e =
    let head : p x ≡ p y = cc in
    let tail : map p xs ≡ map p ys = cc in
    ap (λ b. cond (not b) (1 + position_or_len p xs) 0) head ∙ ap (λ n. cond (not (p y)) (1 + n) 0) (same_len p xs ys tail)

same_position : (p : FieldSeen → Bool) (xs ys : List FieldSeen) → map p xs ≡ map p ys → position p xs ≡ position p ys
same_position p xs ys e =
    let many : length xs ≡ length ys = sym (length-map xs p) ∙ ap length e ∙ length-map ys p in
    ap (λ n. cond (nat_lt n (length xs)) (Some n) None) (same_len p xs ys e)
    ∙ ap (λ k. cond (nat_lt (position_or_len p ys) k) (Some (position_or_len p ys)) None) many

pub place_having : (c : ChipData) (field : ℕ) (q : Policy) (n b : ℕ) → place_at (fields_of (having c field q) n) b ≡ place_at (fields_of c n) b
unfolding place_at fields_of
place_having c field q n b =
    let p = λ (f : FieldSeen). covers f.shape b in
    let all = set c.fields field (by_policy (field_of c field) q) in
    let count = count_of c n in
    let first = first_of c n in
    same_position p (take count (drop first all)) (take count (drop first c.fields))
    (sym (take-map p count (drop first all)) ∙ ap (take count) (sym (drop-map p first all))
    ∙ ap (λ bs. take count (drop first bs)) (map-set_same p c.fields field (by_policy (field_of c field) q) no_field refl)
    ∙ ap (take count) (drop-map p first c.fields) ∙ take-map p count (drop first c.fields))

pub field_having : (c : ChipData) (field : ℕ) (q : Policy) → field < length c.fields → field_of (having c field q) field ≡ by_policy (field_of c field) q
field_having c field q inside = get_or-set_same c.fields field (by_policy (field_of c field) q) no_field inside

-- the field's bits have the policy
pub policy_having : (c : ChipData) (field : ℕ) (q : Policy) → IsSound c → field < length c.fields
    → policy_in (fields_of (having c field q) (reg_of c field)) (field - first_of c (reg_of c field)) ≡ q
policy_having c field q sound inside =
    let x = having c field q in
    let many : length x.fields ≡ length c.fields = length-set c.fields field (by_policy (field_of c field) q) in
    let own : reg_of x field ≡ reg_of c field = ap (λ (f : FieldSeen). f.shape.reg) (field_having c field q inside) in
    let at = place_of x field (having_sound c field q sound) (subst (λ n. field < n) (sym many) inside) in
    subst (λ r. policy_in (fields_of x r) (field - first_of x r) ≡ q) own
    (ap (λ (f : FieldSeen). f.shape.policy) at.field ∙ ap (λ (f : FieldSeen). f.shape.policy) (field_having c field q inside))
