-- A chip whose backdoors were taken away.
use Rattle.std.proofs.Common.{◌≡◌, ℕ, zero, suc, ◌+◌, ◌<◌, ◌≤◌, List, [], ◌∷◌, ◌++◌, length, map, take, drop, set, get_or, slice_get, sum_by, Option, Some, None, refl, sym, ap, subst, ◌∙◌, inl, inr, arith}
use Rattle.std.specs.Prelude.{IsSomeAnd, fold, option_map}
use Rattle.std.proofs.Math.Seq.{take-append_seam}
use Rattle.std.proofs.lemmas.List.{length-map, take-map}
use Rattle.std.proofs.lemmas.Option.{none-some, same_Some, slice_get-map}
use Rattle.rl_policy.specs.declared.effects.Effects.{Effects}
use Rattle.rl_model.specs.declared.rows.RegRow.{RegRow}
use Rattle.rl_model.specs.declared.rows.MemRow.{MemRow}
use Rattle.rl_model.specs.declared.rows.Field.{Field}
use Rattle.rl_model.specs.Rows.{FieldSeen, ChipData}
use Rattle.rl_model.specs.Chip.{IsSound, IsFieldOf, HasParent, path_at, closed_chip, closed_reg, closed_mem}
use Rattle.rl_policy.specs.Masks.{AreEffectsOf}
use Rattle.rl_model.specs.Fields.{policy_at}
use Rattle.rl_model.specs.Masks.{AreEffects}

-- ---- the rows, one after another

mapped_next : {X : Type 0} (f : X → X) (xs : List X) (i : ℕ) (d : X) → i < length xs
    → (let rows = map f (take i xs) ++ drop i xs in set rows i (f (get_or rows i d))) ≡ map f (take (suc i) xs) ++ drop (suc i) xs
mapped_next f [] i d h = absurd (omega arith)
mapped_next f (x ∷ xs) zero d h = refl
mapped_next f (x ∷ xs) (suc i) d h = ap (λ rows. f x ∷ rows) (mapped_next f xs i d (omega arith))

-- one row more
pub mapped_more : {X : Type 0} (f : X → X) (xs rows : List X) (i : ℕ) (d : X) → rows ≡ map f (take i xs) ++ drop i xs → i < length xs
    → set rows i (f (get_or rows i d)) ≡ map f (take (i + 1) xs) ++ drop (i + 1) xs
mapped_more f xs rows i d is low =
    let next : suc i ≡ i + 1 = omega arith in
    ap (λ (rs : List _). set rs i (f (get_or rs i d))) is ∙ mapped_next f xs i d low ∙ ap (λ k. map f (take k xs) ++ drop k xs) next

-- all rows, written back to the vector where they stand
pub written_back : {X : Type 0} (f : X → X) (xs slice new : List X) (len : ℕ) → slice ≡ xs → length slice ≡ len → new ≡ map f slice
    → take len (new ++ drop (length new) xs) ≡ map f xs
written_back f xs slice new len is long closed =
    let all : length new ≡ len = ap length closed ∙ length-map slice f ∙ long in
    ap (λ k. take k (new ++ drop (length new) xs)) (sym all) ∙ take-append_seam new (drop (length new) xs) ∙ closed ∙ ap (map f) is

-- ---- the chip

record Was {X : Type 0} (f : X → X) (xs : List X) (n : ℕ) (y : X) : Type 0 where
  pub row : X
  pub at : slice_get xs n ≡ Some row
  pub is : f row ≡ y

was_by : {X : Type 0} (f : X → X) (xs : List X) (n : ℕ) (y : X) (o : Option X) → slice_get xs n ≡ o → option_map f o ≡ Some y → Was f xs n y
was_by f xs n y None e h = absurd (none-some y h)
was_by f xs n y (Some x) e h = record { row = x; at = e; is = same_Some _ _ h }

was : {X : Type 0} (f : X → X) (xs : List X) (n : ℕ) (y : X) → slice_get (map f xs) n ≡ Some y → Was f xs n y
was f xs n y h = was_by f xs n y (slice_get xs n) refl (sym (slice_get-map f xs n) ∙ h)

-- what holds of each row holds of each closed one, where it doesn't look at the backdoor
each_closed : {X : Type 0} (f : X → X) (P : ℕ → X → Type 0) (xs : List X) → ((n : ℕ) (x : X) → P n x → P n (f x))
    → ((n : ℕ) (x : X) → slice_get xs n ≡ Some x → P n x) → (n : ℕ) (y : X) → slice_get (map f xs) n ≡ Some y → P n y
each_closed f P xs keeps each n y h =
    let w = was f xs n y h in
    subst (P n) w.is (keeps n w.row (each n w.row w.at))

fold_closed : {X : Type 0} (f : X → X) (count : X → ℕ) → ((x : X) → count (f x) ≡ count x) → (xs : List X) (from : ℕ)
    → fold (λ a x. a + count x) from (map f xs) ≡ fold (λ a x. a + count x) from xs
fold_closed f count same [] from = refl
fold_closed f count same (x ∷ xs) from =
    ap (λ k. fold (λ a x. a + count x) (from + k) (map f xs)) (same x) ∙ fold_closed f count same xs (from + count x)

sum_closed : {X : Type 0} (f : X → X) (count : X → ℕ) → ((x : X) → count (f x) ≡ count x) → (xs : List X) → sum_by count (map f xs) ≡ sum_by count xs
sum_closed f count same xs = fold_closed f count same xs 0

counts_closed : (regs : List RegRow) → sum_by (λ (r : RegRow). r.count) (map closed_reg regs) ≡ sum_by (λ (r : RegRow). r.count) regs
counts_closed regs = sum_closed closed_reg (λ r. r.count) (λ r. refl) regs

firsts_closed : (regs : List RegRow) (n : ℕ) → sum_by (λ (r : RegRow). r.count) (take n (map closed_reg regs)) ≡ sum_by (λ (r : RegRow). r.count) (take n regs)
firsts_closed regs n = ap (sum_by (λ (r : RegRow). r.count)) (take-map closed_reg n regs) ∙ counts_closed (take n regs)

owner_by : (regs : List RegRow) (n i : ℕ) (f : Field) (o : Option RegRow) → slice_get regs n ≡ o → IsSomeAnd o (IsFieldOf i f)
    → IsSomeAnd (option_map closed_reg o) (IsFieldOf i f)
owner_by regs n i f None e h = h
owner_by regs n i f (Some r) e h = h

owner_closed : (regs : List RegRow) (n i : ℕ) (f : Field) → IsSomeAnd (slice_get regs n) (IsFieldOf i f)
    → IsSomeAnd (slice_get (map closed_reg regs) n) (IsFieldOf i f)
owner_closed regs n i f h =
    subst (λ (o : Option RegRow). IsSomeAnd o (IsFieldOf i f)) (sym (slice_get-map closed_reg regs n)) (owner_by regs n i f (slice_get regs n) refl h)

parent_closed : (c : ChipData) (path : List ℕ) → HasParent c path → HasParent (closed_chip c) path
parent_closed c path (inl top) = inl top
parent_closed c path (inr (scope, h)) = inr (scope, record { name = h.name; scope = h.scope; named = h.named; joined = h.joined })

pub sound_closed : (c : ChipData) → IsSound c → IsSound (closed_chip c)
sound_closed c s = record {
  blocks = s.blocks;
  scopes = s.scopes;
  files = s.files;
  regs = omega (arith, s.regs, length-map c.regs closed_reg);
  mems = omega (arith, s.mems, length-map c.mems closed_mem);
  fields = s.fields;
  kinds = s.kinds;
  known_kinds = s.known_kinds;
  two_kinds = s.two_kinds;
  paths = omega (arith, s.paths, length-map c.regs closed_reg, length-map c.mems closed_mem);
  each_reg = each_closed closed_reg (λ n r. (1 ≤ r.bytes) × (r.bytes ≤ 8) × (r.first + r.count ≤ length c.fields)) c.regs (λ n r h. h) s.each_reg;
  each_field = λ i f at. let h = s.each_field i f at in (owner_closed c.regs f.shape.reg i f.shape h.0, h.1, h.2, h.3);
  owned = λ n i r f at. let w = was closed_reg c.regs n r at in
      λ seen low high. s.owned n i w.row f w.at seen (subst (λ (r : RegRow). r.first ≤ i) (sym w.is) low) (subst (λ (r : RegRow). i < r.first + r.count) (sym w.is) high);
  apart = s.apart;
  each_mem = each_closed closed_mem (λ n m. (1 ≤ m.bytes) × (m.bytes ≤ 8) × (1 ≤ m.size)) c.mems (λ n m h. h) s.each_mem;
  locations = omega (arith, s.locations, sum_closed closed_mem (λ (m : MemRow). m.size) (λ m. refl) c.mems);
  distinct_paths = s.distinct_paths;
  distinct_kinds = s.distinct_kinds;
  parents = λ i low. parent_closed c (path_at c i) (s.parents i low);
  deep = s.deep;
  few_fields = each_closed closed_reg (λ n r. r.count ≤ 64) c.regs (λ n r h. h) s.few_fields;
  all_fields = s.all_fields;
  firsts = λ n r at. let w = was closed_reg c.regs n r at in
      subst (λ (r : RegRow). r.first ≡ sum_by (λ (r : RegRow). r.count) (take n (map closed_reg c.regs))) w.is (s.firsts n w.row w.at ∙ sym (firsts_closed c.regs n));
  counts = s.counts ∙ sym (counts_closed c.regs);
  each_reset = s.each_reset;
  one_value = s.one_value;
}

pub masks_closed : (regs : List RegRow) (fields : List FieldSeen) (all : List Effects) → AreEffects regs fields all → AreEffects (map closed_reg regs) fields all
masks_closed regs fields all a = record {
  long = a.long ∙ sym (length-map regs closed_reg);
  each = λ n r e at seen. let w = was closed_reg regs n r at in
      subst (λ (r : RegRow). AreEffectsOf (policy_at (take r.count (drop r.first fields))) e) w.is (a.each n w.row e w.at seen);
}
