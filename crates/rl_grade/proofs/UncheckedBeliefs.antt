-- What a model believes of one bit of a field that a check compares, and that a check which reads it finds nothing.
use Rattle.std.proofs.Common.{◌≡◌, ℕ, ◌+◌, ◌-◌, ◌<◌, Bool, true, false, not, ◌&&◌, ◌||◌, ◌==◌, if◌then◌else◌, List, length, Option, Some, None, refl, sym, ap, subst, ◌∙◌, arith}
use Rattle.std.specs.Prelude.{get_or, replicate}
use Rattle.std.specs.Option.{option_map_or}
use Rattle.std.proofs.lemmas.Bool.{and_parts, eq-eqb, eqb-true}
use Rattle.std.proofs.lemmas.Bool.Decides.{nat_tests}
use Rattle.std.proofs.lemmas.List.{get_or-replicate, get_or-set_same}
use Rattle.std.proofs.lemmas.List.FromFn.{get_or-map-range_with_len}
use Rattle.std.proofs.lemmas.Nat.{pow_pos}
use Rattle.rl_policy.proofs.BitLemmas.{bit-zero, from_bits-same, is_from_bits}
use Rattle.rl_policy.specs.Bits.{bit}
use Rattle.rl_policy.specs.Table.{after_write, is_write_only, spends_mark, value_read}
use Rattle.rl_policy.specs.declared.policy.Policy.{Policy}
use Rattle.rl_policy.specs.declared.policy.Policy.TheVariants.{Wo, Woc, Wos, Wo1}
use Rattle.rl_model.specs.Chip.{IsSound}
use Rattle.rl_model.specs.Fields.{covers, field_in, field_of, fields_of, first_of, place_at, policy_in}
use Rattle.rl_model.specs.Rows.{ChipData, FieldSeen}
use Rattle.rl_mirror.proofs.FieldLemmas.{field_in-fields_of, field_list, length-fields_of, number_within, owner_is}
use Rattle.rl_mirror.proofs.PlaceLemmas.{covers_is, is_place, place_is}
use Rattle.rl_mirror.proofs.WordLemmas.{bit-word_by_field}
use Rattle.rl_mirror.specs.Compared.{differ, differing, differs, is_compared}
use Rattle.rl_mirror.specs.Fields.{part_of}
use Rattle.rl_mirror.specs.Mirror.{MirrorData, marks_in, mirrored_of}
use Rattle.rl_mirror.specs.Prediction.{after_reset, is_spent_by, learned_bit, learned_by_read, learned_by_write, predict_raw, predict_read, predict_write, reset, reset_bit, spent_after}
use Rattle.rl_grade.proofs.TogetherBeliefs.{HasSize}

-- the bit belongs to the k-th field of the register, which a check compares
pub record IsComparedBit (c : ChipData) (r b k : ℕ) : Type 0 where
  pub low : b < 64
  pub at : place_at (fields_of c r) b ≡ Some k
  pub compared : is_compared (field_in (fields_of c r) k).shape ≡ true

never : (a : Bool) → not a ≡ true → a ≡ false
never true is = cc
never false is = refl

pub readable : (c : ChipData) (r b k : ℕ) → IsComparedBit c r b k → is_write_only (policy_in (fields_of c r) k) ≡ false
readable c r b k one =
    let f = (field_in (fields_of c r) k).shape in
    never (is_write_only f.policy) (and_parts f.compare (not (is_write_only f.policy)) one.compared).1

-- it is one of the register's fields
pub inside_it : (c : ChipData) (r b k : ℕ) → IsComparedBit c r b k → k < length (fields_of c r)
inside_it c r b k one = (place_is (fields_of c r) b k one.at).0

-- ---- one bit after a prediction

module _ (c : ChipData) (r b k : ℕ) (sound : IsSound c) (there : r < length c.regs) (one : IsComparedBit c r b k) where
  abbrev fs : List FieldSeen
  fs = fields_of c r

  abbrev p : Policy
  p = policy_in fs k

  -- what a word made field by field has there
  pub made : (part : ℕ → ℕ → Bool) → option_map_or (λ k. part k b) (place_at fs b) false ≡ part k b
  made part = ap (λ o. option_map_or (λ k. part k b) o false) one.at

  pub write_bit : (word fields : ℕ) (m : MirrorData) → HasSize c m
      → bit (mirrored_of (predict_write c r word fields m) r) b
      ≡ (if bit fields k then after_write p (bit (mirrored_of m r) b) (bit word b) (marks_in c m.spent r k) else bit (mirrored_of m r) b)
  unfolding predict_write learned_by_write
  write_bit word fields m size =
      let x = mirrored_of m r in
      let part = λ (k b : ℕ). if bit fields k then after_write (policy_in fs k) (bit x b) (bit word b) (marks_in c m.spent r k) else bit x b in
      ap (λ v. bit v b) (get_or-set_same m.mirrored r _ 0 (subst (λ n. r < n) (sym size.mirrored) there)) ∙ bit-word_by_field fs part b one.low ∙ made part

  pub number : first_of c r + k < length c.fields
  number = number_within c r k sound there (inside_it c r b k one)

  pub own_reg : (field_of c (first_of c r + k)).shape.reg ≡ r
  own_reg =
      let long = length-fields_of c r sound there in
      let inside = inside_it c r b k one in
      owner_is c r (first_of c r + k) sound there (omega arith) (omega (arith, long, inside))

  pub own_field : field_in fs k ≡ field_of c (first_of c r + k)
  own_field = field_in-fields_of c r k sound there (inside_it c r b k one)

  pub covers_it : covers (field_of c (first_of c r + k)).shape b ≡ true
  covers_it = subst (λ (f : FieldSeen). covers f.shape b ≡ true) own_field (place_is fs b k one.at).1

  spends : (fields : ℕ) → is_spent_by c r fields (first_of c r + k) ≡ (bit fields k && spends_mark p)
  spends fields =
      let n = first_of c r + k in
      let less : n - first_of c r ≡ k = omega arith in
      ap (λ a. a && (bit fields (n - first_of c r) && spends_mark (field_of c n).shape.policy)) (eq-eqb _ r own_reg)
      ∙ ap (λ j. bit fields j && spends_mark (field_of c n).shape.policy) less
      ∙ ap (λ (f : FieldSeen). bit fields k && spends_mark f.shape.policy) (sym own_field)

  pub write_mark : (word fields : ℕ) (m : MirrorData) → HasSize c m
      → marks_in c (predict_write c r word fields m).spent r k ≡ (marks_in c m.spent r k || (bit fields k && spends_mark p))
  unfolding predict_write spent_after
  write_mark word fields m size =
      let n = first_of c r + k in
      get_or-map-range_with_len (λ n. get_or m.spent n false || is_spent_by c r fields n) 0 (length m.spent) n n false (subst (λ j. n < j) (sym size.spent) number) (omega arith)
      ∙ ap (λ a. marks_in c m.spent r k || a) (spends fields)

  pub read_bit : (read fields : ℕ) (m : MirrorData) → HasSize c m
      → bit (mirrored_of (predict_read c r read fields m) r) b
      ≡ (if bit fields k then learned_bit p (bit read b) (bit (mirrored_of m r) b) else bit (mirrored_of m r) b)
  unfolding predict_read learned_by_read
  read_bit read fields m size =
      let x = mirrored_of m r in
      let part = λ (k b : ℕ). if bit fields k then learned_bit (policy_in fs k) (bit read b) (bit x b) else bit x b in
      ap (λ v. bit v b) (get_or-set_same m.mirrored r _ 0 (subst (λ n. r < n) (sym size.mirrored) there)) ∙ bit-word_by_field fs part b one.low ∙ made part

  pub read_mark : (read fields : ℕ) (m : MirrorData) → marks_in c (predict_read c r read fields m).spent r k ≡ marks_in c m.spent r k
  unfolding predict_read
  read_mark read fields m = refl

  pub raw_bit : (v : ℕ) (m : MirrorData) → HasSize c m → bit (mirrored_of (predict_raw c r v m) r) b ≡ bit v b
  unfolding predict_raw
  raw_bit v m size =
      ap (λ v. bit v b) (get_or-set_same m.mirrored r _ 0 (subst (λ n. r < n) (sym size.mirrored) there)) ∙ bit-word_by_field fs (λ k b. bit v b) b one.low
      ∙ made (λ k b. bit v b)

  pub raw_mark : (v : ℕ) (m : MirrorData) → marks_in c (predict_raw c r v m).spent r k ≡ marks_in c m.spent r k
  unfolding predict_raw
  raw_mark v m = refl

  pub reset_bit_is : (kind : ℕ) (m : MirrorData) → HasSize c m
      → bit (mirrored_of (reset c kind m) r) b ≡ reset_bit (field_of c (first_of c r + k)) kind b (bit (mirrored_of m r) b)
  unfolding reset after_reset
  reset_bit_is kind m size =
      let x = mirrored_of m r in
      let part = λ (k b : ℕ). reset_bit (field_in fs k) kind b (bit x b) in
      ap (λ v. bit v b) (get_or-map-range_with_len (λ q. after_reset (fields_of c q) kind (get_or m.mirrored q 0)) 0 (length m.mirrored) r r 0
      (subst (λ n. r < n) (sym size.mirrored) there) (omega arith))
      ∙ bit-word_by_field fs part b one.low ∙ made part ∙ ap (λ (f : FieldSeen). reset_bit f kind b (bit x b)) own_field

  pub reset_mark : (kind : ℕ) (m : MirrorData) → HasSize c m → marks_in c (reset c kind m).spent r k ≡ (if kind == 0 then false else marks_in c m.spent r k)
  unfolding reset
  reset_mark kind m size = by (kind == 0)
    where
      by : (a : Bool) → get_or (if a then replicate (length m.spent) false else m.spent) (first_of c r + k) false ≡ (if a then false else marks_in c m.spent r k)
      by true = get_or-replicate (length m.spent) (first_of c r + k) false false (subst (λ j. first_of c r + k < j) (sym size.spent) number)
      by false = refl

-- ---- a check

pub shows : (p : Policy) (x : Bool) → is_write_only p ≡ false → value_read p x ≡ x
shows Wo x e = absurd cc
shows Woc x e = absurd cc
shows Wos x e = absurd cc
shows Wo1 x e = absurd cc
shows _ x e = refl

place_found : (o : Option ℕ) (k : ℕ) → is_place o k ≡ true → o ≡ Some k
place_found None k e = absurd cc
place_found (Some j) k e = ap Some (eqb-true j k e)

covered : (f : FieldSeen) (i : ℕ) → i < f.shape.width → covers f.shape (f.shape.lsb + i) ≡ true
covered f i l = grind (arith, nat_tests)

none_differs : (compared same : Bool) → (compared ≡ true → same ≡ true) → (compared && not same) ≡ false
none_differs true same f = ap not (f refl)
none_differs false same f = refl

-- what was read has each compared bit as believed
abbrev pub ReadsAsBelieved : ChipData → (r read : ℕ) → MirrorData → Type 0
ReadsAsBelieved c r read m = (b k : ℕ) → IsComparedBit c r b k → bit read b ≡ bit (mirrored_of m r) b

-- so the check finds nothing
pub nothing_found : (c : ChipData) (r read : ℕ) (m : MirrorData) → IsSound c → r < length c.regs → ReadsAsBelieved c r read m → differ c r read m ≡ 0
unfolding differ differing
nothing_found c r read m sound there same =
    let fs = fields_of c r in
    let x = mirrored_of m r in
    let list = field_list c r sound there in
    sym (is_from_bits (length fs) 0 (λ k. differs (field_in fs k).shape read x) (pow_pos (length fs))
    (λ k inside.
    let f = (field_in fs k).shape in
    bit-zero k ∙ sym (none_differs (is_compared f) (part_of f read == part_of f x) (λ compared.
    eq-eqb (part_of f read) (part_of f x) (from_bits-same f.width (λ i. bit read (f.lsb + i)) (λ i. bit x (f.lsb + i)) (λ i l.
    let b = f.lsb + i in
    let low : b < 64 = omega (arith, list.inside k inside, list.most, l) in
    let at : place_at fs b ≡ Some k = place_found (place_at fs b) k (sym (covers_is _ fs k b list inside) ∙ covered (field_in fs k) i l) in
    same b k (record { low = low; at = at; compared = compared })))))))
