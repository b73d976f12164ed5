-- The policy of a bit in a device without flaws is that of the field that it belongs to.
use Rattle.std.proofs.Common.{◌≡◌, ℕ, zero, suc, ◌+◌, ◌-◌, ◌<◌, ◌≤◌, Bool, true, false, not, ◌&&◌, cond, eqb, ltb, leb, List, [], ◌∷◌, length, get_or, take, drop, map, Option, Some, None, option_map}
use Rattle.std.proofs.Common.{refl, sym, ap, ◌∙◌, subst, arith, eq-eqb, eqb-true, min, length-take, length-drop}
use Rattle.std.specs.Prelude.{position, find, slice_get, IsSomeAnd}
use Rattle.std.specs.List.{position_or_len}
use Rattle.std.specs.Option.{option_map_or}
use Rattle.std.proofs.lemmas.List.{get_or-take, get_or-drop}
use Rattle.std.proofs.lemmas.List.Quantifiers.{position-Some}
use Rattle.std.proofs.lemmas.Option.{slice_get-get_or}
use Rattle.std.proofs.lemmas.Bool.Decides.{nat_tests}
use Rattle.rl_policy.specs.Bits.{is_within}
use Rattle.rl_model.specs.declared.rows.RegRow.{RegRow}
use Rattle.rl_model.specs.Rows.{FieldSeen, ChipData}
use Rattle.rl_model.specs.Chip.{IsSound as IsSoundChip, IsFieldOf, FieldFits}
use Rattle.rl_bus.specs.Setup.{Setup, Flaws, no_field as no_row, covers, policy_of, policy_at, field_at, or_else}
use Rattle.rl_map.specs.Layout.{LayoutData}
use Rattle.rl_map.specs.Tables.{field_row, setup_of}
use Rattle.rl_model.specs.Fields.{no_field, first_of, count_of, fields_of, place_at, policy_in}
use Rattle.rl_split.specs.Law.{no_flaws}

first_below : (m : ℕ) → ltb 0 (suc m) ≡ true
first_below m = grind (arith, nat_tests)

next_below : (n m : ℕ) → ltb (1 + n) (suc m) ≡ ltb n m
next_below n m = grind (arith, nat_tests)

position-cons : {X : Type 0} (p : X → Bool) (x : X) (xs : List X) → position p (x ∷ xs) ≡ cond (p x) (Some 0) (option_map suc (position p xs))
position-cons {X} p x xs = by (p x)
  where
    shifted : (t : Bool) (n : ℕ) → cond t (Some (1 + n)) None ≡ option_map suc (cond t (Some n) None)
    shifted true n = let same : 1 + n ≡ suc n = omega arith in ap Some same
    shifted false n = refl

    by : (t : Bool) → cond (ltb (cond (not t) (1 + position_or_len p xs) 0) (suc (length xs))) (Some (cond (not t) (1 + position_or_len p xs) 0)) None ≡ cond t (Some 0) (option_map suc
        (position p xs))
    by true = ap (λ t. cond t (Some 0) None) (first_below (length xs))
    by false =
        ap (λ t. cond t (Some (1 + position_or_len p xs)) None) (next_below (position_or_len p xs) (length xs))
        ∙ shifted (ltb (position_or_len p xs) (length xs)) (position_or_len p xs)

-- what stands at the first place that passes
at_position : {X A : Type 0} (p : X → Bool) (g : X → A) (d : X) (xs : List X) → option_map (λ n. g (get_or xs n d)) (position p xs) ≡ option_map g (find p xs)
at_position p g d [] = refl
at_position {X} {A} p g d (x ∷ xs) = ap (option_map (λ n. g (get_or (x ∷ xs) n d))) (position-cons p x xs) ∙ by (p x) (at_position p g d xs)
  where
    more : (o : Option ℕ) → option_map (λ n. g (get_or (x ∷ xs) n d)) (option_map suc o) ≡ option_map (λ n. g (get_or xs n d)) o
    more None = refl
    more (Some n) = refl

    by : (t : Bool) → option_map (λ n. g (get_or xs n d)) (position p xs) ≡ option_map g (find p xs) → option_map (λ n. g (get_or (x ∷ xs) n d)) (cond t (Some 0) (option_map suc (position p xs))) ≡
        option_map g (cond t (Some x) (find p xs))
    by true h = refl
    by false h = more (position p xs) ∙ h

find_mapped : {X Y : Type 0} (f : X → Y) (p : Y → Bool) (xs : List X) → find p (map f xs) ≡ option_map f (find (λ x. p (f x)) xs)
find_mapped f p [] = refl
find_mapped {X} {Y} f p (x ∷ xs) = by (p (f x)) (find_mapped f p xs)
  where
    by : (t : Bool) → find p (map f xs) ≡ option_map f (find (λ x. p (f x)) xs) → cond t (Some (f x)) (find p (map f xs)) ≡ option_map f (cond t (Some x) (find (λ x. p (f x)) xs))
    by true h = refl
    by false h = h

-- ---- the elements that pass stand together

abbrev Together : {X : Type 0} → (X → Bool) → ℕ → ℕ → List X → Type 0
Together {X} p m n xs = (i : ℕ) (d : X) → i < length xs → p (get_or xs i d) ≡ (leb m i && ltb i (m + n))

no_more : {X : Type 0} (p : X → Bool) (x : X) (xs : List X) (m n k : ℕ) → Together p m n (x ∷ xs) → ((i : ℕ) → (leb m (suc i) && ltb (suc i) (m + n)) ≡ (leb k i && ltb i (k + n))) → Together p k n xs
no_more p x xs m n k h shift i d l = h (suc i) d (omega arith) ∙ shift i

find_together : {X : Type 0} (p q : X → Bool) (m n : ℕ) (xs : List X) → Together p m n xs → find (λ x. p x && q x) xs ≡ find q (take n (drop m xs))
find_together p q zero zero [] h = refl
find_together p q zero (suc n) [] h = refl
find_together p q (suc m) zero [] h = refl
find_together p q (suc m) (suc n) [] h = refl
find_together {X} p q (suc m) n (x ∷ xs) h =
    let first : p x ≡ false = h 0 x (omega arith) ∙ before m n in
    let rest : Together p m n xs = λ i d l. h (suc i) d (omega arith) ∙ shifted m n i in
    ap (λ t. cond (t && q x) (Some x) (find (λ x. p x && q x) xs)) first ∙ find_together p q m n xs rest
  where
    before : (m n : ℕ) → (leb (suc m) 0 && ltb 0 (suc m + n)) ≡ false
    before m n = grind (arith, nat_tests)

    shifted : (m n i : ℕ) → (leb (suc m) (suc i) && ltb (suc i) (suc m + n)) ≡ (leb m i && ltb i (m + n))
    shifted m n i = grind (arith, nat_tests)
find_together {X} p q zero zero (x ∷ xs) h =
    let first : p x ≡ false = h 0 x (omega arith) ∙ none 0 in
    let rest : Together p 0 0 xs = λ i d l. h (suc i) d (omega arith) ∙ none (suc i) ∙ sym (none i) in
    ap (λ t. cond (t && q x) (Some x) (find (λ x. p x && q x) xs)) first ∙ find_together p q 0 0 xs rest
  where
    none : (i : ℕ) → (leb 0 i && ltb i (0 + 0)) ≡ false
    none i = grind (arith, nat_tests)
find_together {X} p q zero (suc n) (x ∷ xs) h =
    let first : p x ≡ true = h 0 x (omega arith) ∙ here n in
    let rest : Together p 0 n xs = λ i d l. h (suc i) d (omega arith) ∙ shifted n i in
    ap (λ t. cond (t && q x) (Some x) (find (λ x. p x && q x) xs)) first ∙ ap (λ o. cond (q x) (Some x) o) (find_together p q 0 n xs rest)
  where
    here : (n : ℕ) → (leb 0 0 && ltb 0 (0 + suc n)) ≡ true
    here n = grind (arith, nat_tests)

    shifted : (n i : ℕ) → (leb 0 (suc i) && ltb (suc i) (0 + suc n)) ≡ (leb 0 i && ltb i (0 + n))
    shifted n i = grind (arith, nat_tests)

declared_policy : (t : Setup) (o : Option ℕ) → t.flaws ≡ no_flaws → option_map (policy_of t) o ≡ option_map (λ n. (get_or t.fields n no_row).policy) o
declared_policy t None e = refl
declared_policy t (Some n) e = ap (λ (f : Flaws). Some (or_else (option_map (λ r. r.policy) (find (λ r. eqb r.field n) f.policies)) (get_or t.fields n no_row).policy)) e

-- ---- the fields of a register of a chip

pub some_and : {A : Type 0} (o : Option A) (P : A → Type 0) (x : A) → o ≡ Some x → IsSomeAnd o P → P x
some_and None P x e h = absurd h
some_and (Some y) P x e h = let same : y ≡ x = cc in subst P same h

-- the row of the register
pub record HasRow (c : ChipData) (reg : ℕ) : Type 0 where
  pub row : RegRow
  pub row_is : slice_get c.regs reg ≡ Some row
  pub first : first_of c reg ≡ row.first
  pub count : count_of c reg ≡ row.count

abbrev pub has_row : (c : ChipData) (reg : ℕ) (r : RegRow) → slice_get c.regs reg ≡ Some r → HasRow c reg
has_row c reg r e = record {
  row = r;
  row_is = e;
  first = ap (λ o. option_map_or (λ (q : RegRow). q.first) o 0) e;
  count = ap (λ o. option_map_or (λ (q : RegRow). q.count) o 0) e;
}

-- field i belongs to the register exactly where it stands among the register's fields
pub field_fits : (c : ChipData) (i : ℕ) (d : FieldSeen) → IsSoundChip c → i < length c.fields → FieldFits c i (get_or c.fields i d)
field_fits c i d sound l = sound.each_field i (get_or c.fields i d) (slice_get-get_or c.fields i d l)

pub in_row : (c : ChipData) (reg i : ℕ) (d : FieldSeen) → IsSoundChip c → (h : HasRow c reg) → i < length c.fields → (get_or c.fields i d).shape.reg ≡ reg → IsFieldOf i (get_or c.fields i d).shape
    h.row
in_row c reg i d sound h l e =
    some_and (slice_get c.regs (get_or c.fields i d).shape.reg) (IsFieldOf i (get_or c.fields i d).shape) h.row (ap (slice_get c.regs) e ∙ h.row_is) (field_fits c i d sound l).0

pub of_row : (c : ChipData) (reg i : ℕ) (d : FieldSeen) → IsSoundChip c → (h : HasRow c reg) → i < length c.fields → first_of c reg ≤ i → i < first_of c reg + count_of c reg →
    (get_or c.fields i d).shape.reg ≡ reg
of_row c reg i d sound h l low high =
    sound.owned reg i h.row (get_or c.fields i d) h.row_is (slice_get-get_or c.fields i d l) (omega (arith, h.first, low)) (omega (arith, h.first, h.count, high))

same_tests : (t u : Bool) → (t ≡ true → u ≡ true) → (u ≡ true → t ≡ true) → t ≡ u
same_tests true u f g = sym (f refl)
same_tests false true f g = g refl
same_tests false false f g = refl

both_hold : (m n i : ℕ) → m ≤ i → i < m + n → (leb m i && ltb i (m + n)) ≡ true
both_hold m n i l h = grind (arith, nat_tests)

held_both : (m n i : ℕ) → (leb m i && ltb i (m + n)) ≡ true → (m ≤ i) × (i < m + n)
held_both m n i e = (grind (arith, nat_tests), grind (arith, nat_tests))

fields_together : (c : ChipData) (reg : ℕ) → IsSoundChip c → HasRow c reg → Together (λ f. eqb f.shape.reg reg) (first_of c reg) (count_of c reg) c.fields
fields_together c reg sound h i d l =
    same_tests (eqb (get_or c.fields i d).shape.reg reg) (leb (first_of c reg) i && ltb i (first_of c reg + count_of c reg))
    (λ e. let at = in_row c reg i d sound h l (eqb-true _ reg e) in both_hold (first_of c reg) (count_of c reg) i (omega (arith, h.first, at.0)) (omega (arith, h.first, h.count, at.1)))
    (λ e. let at = held_both (first_of c reg) (count_of c reg) i e in eq-eqb _ reg (of_row c reg i d sound h l at.0 at.1))

policy_mapped : (o : Option FieldSeen) → option_map (λ f. f.policy) (option_map field_row o) ≡ option_map (λ f. f.shape.policy) o
policy_mapped None = refl
policy_mapped (Some f) = refl

-- in a device without flaws each bit has the policy of the field that it belongs to
pub policy_by_place : (c : ChipData) (l : LayoutData) (reg b : ℕ) → IsSoundChip c → HasRow c reg → policy_at (setup_of c l no_flaws) reg b ≡ option_map (policy_in (fields_of c reg))
    (place_at (fields_of c reg) b)
unfolding setup_of fields_of place_at
policy_by_place c l reg b sound h =
    let t = setup_of c l no_flaws in
    declared_policy t (field_at t reg b) refl
    ∙ at_position (λ f. covers f reg b) (λ f. f.policy) no_row t.fields
    ∙ ap (option_map (λ f. f.policy)) (find_mapped field_row (λ f. covers f reg b) c.fields)
    ∙ policy_mapped (find (λ f. covers (field_row f) reg b) c.fields)
    ∙ ap (option_map (λ (f : FieldSeen). f.shape.policy)) (find_together (λ f. eqb f.shape.reg reg) (λ f. is_within f.shape.lsb f.shape.width b) (first_of c reg) (count_of c reg) c.fields
    (fields_together c reg sound h))
    ∙ sym (at_position (λ f. is_within f.shape.lsb f.shape.width b) (λ f. f.shape.policy) no_field (take (count_of c reg) (drop (first_of c reg) c.fields)))

-- ---- the field that a bit belongs to

pub record IsPlaced (c : ChipData) (reg b k : ℕ) : Type 0 where
  pub place_in : k < count_of c reg
  pub number_in : first_of c reg + k < length c.fields
  pub within : is_within (get_or c.fields (first_of c reg + k) no_field).shape.lsb (get_or c.fields (first_of c reg + k) no_field).shape.width b ≡ true
  pub reg_is : (get_or c.fields (first_of c reg + k) no_field).shape.reg ≡ reg

short_part : (n m : ℕ) (xs : List FieldSeen) (k : ℕ) → k < length (take n (drop m xs)) → (k < n) × (m + k < length xs)
short_part n m xs k l =
    let e : length (take n (drop m xs)) ≡ min n (length xs - m) = length-take n (drop m xs) ∙ ap (min n) (length-drop m xs) in
    (omega (arith, e), omega (arith, e))

pub placed : (c : ChipData) (reg b k : ℕ) → IsSoundChip c → HasRow c reg → place_at (fields_of c reg) b ≡ Some k → IsPlaced c reg b k
unfolding fields_of place_at
placed c reg b k sound h e =
    let n = count_of c reg in
    let m = first_of c reg in
    let at = position-Some (λ f. is_within f.shape.lsb f.shape.width b) (take n (drop m c.fields)) k no_field e in
    let short = short_part n m c.fields k at.0 in
    let same : get_or (take n (drop m c.fields)) k no_field ≡ get_or c.fields (m + k) no_field = get_or-take n (drop m c.fields) k no_field short.0 ∙ get_or-drop m c.fields k no_field in
    record {
      place_in = short.0;
      number_in = short.1;
      within = subst (λ (f : FieldSeen). is_within f.shape.lsb f.shape.width b ≡ true) same at.1;
      reg_is = of_row c reg (m + k) no_field sound h short.1 (omega arith) (omega (arith, short.0));
    }
