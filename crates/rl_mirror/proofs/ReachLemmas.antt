-- Desired values stay in reach.
use Rattle.std.proofs.Common.{◌≡◌, ◌⊎◌, ℕ, ◌+◌, ◌-◌, ◌*◌, ◌<◌, ◌≤◌, ◌^◌, Bool, true, false, ◌&&◌, ◌||◌, cond, eqb, List, length, set, get_or, replicate, Option, Some, None, IsTrue, ne_eqb, refl, sym}
use Rattle.std.proofs.Common.{ap, subst, ◌∙◌, inl, inr, arith}
use Rattle.std.specs.Prelude.{nat_le, nat_lt}
use Rattle.std.specs.Option.{option_map_or}
use Rattle.std.proofs.lemmas.Bool.{cond-true, cond-false, cases_Bool, cases_eq, eqb-true, and_parts, and_from, le-leb, lt-ltb, false_from_ne_true, leb-true, ltb-true, false≢true}
use Rattle.std.proofs.lemmas.List.{get_or-set_same, get_or-set_other, get_or-replicate}
use Rattle.std.proofs.lemmas.List.FromFn.{get_or-map-range_with_len}
use Rattle.rl_policy.specs.Bits.{bit, from_bits, put_bit, is_within}
use Rattle.rl_policy.specs.Reach.{is_reached, is_one_sided}
use Rattle.rl_policy.specs.Table.{after_write, after_read, update_bit, is_write_only}
use Rattle.rl_policy.specs.declared.policy.Policy.{Policy}
use Rattle.rl_policy.proofs.BitLemmas.{bit-from_bits, from_bits-same, bit-max}
use Rattle.rl_policy.proofs.TableLemmas.{keeps_reach, update_reaches}
use Rattle.rl_model.specs.declared.rows.Field.{Field}
use Rattle.rl_model.specs.Rows.{FieldSeen, ChipData}
use Rattle.rl_model.specs.Chip.{IsSound, value_for}
use Rattle.rl_model.specs.Fields.{field_of, first_of, size_of, fields_of, field_in, policy_in, covers, place_at}
use Rattle.rl_mirror.specs.Fields.{word_by_field, part_of, owned}
use Rattle.rl_mirror.specs.Mirror.{MirrorData, mirrored_of, desired_of, is_spent, marks_in, IsMirrorOf}
use Rattle.rl_mirror.specs.Prediction.{learned_bit, reset_bit, learned_by_write, learned_by_read, after_reset, is_spent_by, spent_after, predict_write, predict_read, predict_raw, reset, blank, fresh}
use Rattle.rl_mirror.specs.Prediction.{set as set_field, update_word, update_word_of}
use Rattle.rl_mirror.specs.Reachable.{IsSettled, IsReached, IsReachable, after_update, UpdateBrings}
use Rattle.rl_mirror.proofs.PlaceLemmas.{IsFieldList, is_place, covers_is}
use Rattle.rl_mirror.proofs.FieldLemmas.{seated, field_list, apart_fields}
use Rattle.rl_mirror.proofs.WordLemmas.{bit-word_by_field}
use Rattle.rl_mirror.proofs.MirrorLemmas.{IsAt, place_of, values_after, blank_built}

-- ---- a bit of a field in a word of its register

place_from : (o : Option ℕ) (i : ℕ) → is_place o i ≡ true → o ≡ Some i
place_from None i e = absurd (false≢true e)
place_from (Some k) i e = ap Some (eqb-true k i e)

below_64 : (c : ChipData) (n b : ℕ) → IsSound c → n < length c.fields → covers (field_of c n).shape b ≡ true → b < 64
below_64 c n b sound l in_it =
    let s = seated c n sound l in
    let f = (field_of c n).shape in
    let (from, to) = and_parts (nat_le f.lsb b) (nat_lt b (f.lsb + f.width)) in_it in
    let end : b < f.lsb + f.width = ltb-true b (f.lsb + f.width) to in
    omega (arith, end, s.inside, s.bytes)

abbrev pub at_of : ChipData → ℕ → ℕ
at_of c n = n - first_of c (field_of c n).shape.reg

pub field_bit : (c : ChipData) (n b : ℕ) (part : ℕ → ℕ → Bool) → IsSound c → n < length c.fields → covers (field_of c n).shape b ≡ true
    → bit (word_by_field (fields_of c (field_of c n).shape.reg) part) b ≡ part (at_of c n) b
field_bit c n b part sound l in_it =
    let reg = (field_of c n).shape.reg in
    let s = seated c n sound l in
    let p = place_of c n sound l in
    let list = field_list c reg sound s.reg in
    let there : covers (field_in (fields_of c reg) (at_of c n)).shape b ≡ true = ap (λ (f : FieldSeen). covers f.shape b) p.field ∙ in_it in
    let at : place_at (fields_of c reg) b ≡ Some (at_of c n) = place_from (place_at (fields_of c reg) b) (at_of c n) (sym (covers_is (8 * _) (fields_of c reg) (at_of c n) b list p.place) ∙ there) in
    bit-word_by_field (fields_of c reg) part b (below_64 c n b sound l in_it) ∙ ap (λ (o : Option ℕ). option_map_or (λ k. part k b) o false) at

-- ---- what a call does to one field

-- two values agree on the bits of a field
abbrev pub AgreeOn : Field → (x y : ℕ) → Type 0
AgreeOn f x y = (b : ℕ) → covers f b ≡ true → bit x b ≡ bit y b

-- the field is as before, but that its mark may be cleared
pub record IsKept (f : Field) (old_mirrored old_desired new_mirrored new_desired : ℕ) (old_mark new_mark : Bool) : Type 0 where
  pub mirrored : AgreeOn f new_mirrored old_mirrored
  pub desired : AgreeOn f new_desired old_desired
  pub mark : (new_mark ≡ old_mark) ⊎ (new_mark ≡ false)

-- it has one value, or is as before
abbrev pub Steps : ChipData → (old new : MirrorData) → ℕ → Type 0
Steps c old new n =
    let f = (field_of c n).shape in
    AgreeOn f (desired_of new f.reg) (mirrored_of new f.reg)
    ⊎ IsKept f (mirrored_of old f.reg) (desired_of old f.reg) (mirrored_of new f.reg) (desired_of new f.reg) (is_spent old n) (is_spent new n)

cleared_reach : (p : Policy) (m d s t : Bool) → (t ≡ s) ⊎ (t ≡ false) → IsTrue (is_reached p m d s) → IsTrue (is_reached p m d t)
cleared_reach p m d s t mark h = elim mark [ inl same ↦ rw same h | inr none ↦ rw none (keeps_reach.fresh p m d s h) ]

kept_reached : (c : ChipData) (old new : MirrorData) (n : ℕ) → IsKept (field_of c n).shape (mirrored_of old (field_of c n).shape.reg) (desired_of old (field_of c n).shape.reg) (mirrored_of new
    (field_of c n).shape.reg) (desired_of new (field_of c n).shape.reg) (is_spent old n) (is_spent new n)
    → IsReached c old n → IsReached c new n
kept_reached c old new n k h b in_it =
    rw (k.mirrored b in_it, k.desired b in_it)
    (cleared_reach (field_of c n).shape.policy (bit (mirrored_of old (field_of c n).shape.reg) b) (bit (desired_of old (field_of c n).shape.reg) b) (is_spent old n) (is_spent new n) k.mark
    (h b in_it))

-- a field with one value is reached
settled_reached : (c : ChipData) (m : MirrorData) (n : ℕ) → is_one_sided (field_of c n).shape.policy ≡ false → IsSettled c m n → IsReached c m n
settled_reached c m n two same b in_it = rw (same b in_it) (keeps_reach.predicted (field_of c n).shape.policy (bit (mirrored_of m (field_of c n).shape.reg) b) (is_spent m n) two)

pub keeps : (c : ChipData) (old new : MirrorData) → ((n : ℕ) → n < length c.fields → Steps c old new n) → IsReachable c old → IsReachable c new
keeps c old new steps was = record {
  reached = λ n l two. elim (steps n l) [
    | inl same ↦ settled_reached c new n two same
    | inr k ↦ kept_reached c old new n k (was.reached n l two)
  ];
  one_sided = λ n l one. elim (steps n l) [
    | inl same ↦ inl same
    | inr k ↦ elim (was.one_sided n l one) [
      | inl same ↦ inl (λ b in_it. k.desired b in_it ∙ same b in_it ∙ sym (k.mirrored b in_it))
      | inr h ↦ inr (kept_reached c old new n k h)
    ]
  ];
}

-- ---- a call that changes one register

pub one_register : (c : ChipData) (old : MirrorData) (reg x y : ℕ) (spent : List Bool) → IsMirrorOf c old → reg < length c.regs
    → ((n : ℕ) → n < length c.fields → ((field_of c n).shape.reg ≡ reg → ⊥) → get_or spent n false ≡ is_spent old n)
    → ((n : ℕ) → n < length c.fields → (field_of c n).shape.reg ≡ reg
    → AgreeOn (field_of c n).shape y x ⊎ IsKept (field_of c n).shape (mirrored_of old reg) (desired_of old reg) x y (is_spent old n) (get_or spent n false))
    → (n : ℕ) → n < length c.fields → Steps c old (record { mirrored = set old.mirrored reg x; desired = set old.desired reg y; spent = spent }) n
one_register c old reg x y spent built lr others own n l =
    elim (cases_eq (field_of c n).shape.reg reg) [
      | inl same ↦
          let at_x : get_or (set old.mirrored reg x) reg 0 ≡ x = get_or-set_same old.mirrored reg x 0 (omega (arith, built.registers, lr)) in
          let at_y : get_or (set old.desired reg y) reg 0 ≡ y = get_or-set_same old.desired reg y 0 (omega (arith, built.wishes, lr)) in
          rw (same, at_x, at_y) (own n l same)
      | inr other ↦
          let at_x : get_or (set old.mirrored reg x) (field_of c n).shape.reg 0 ≡ mirrored_of old (field_of c n).shape.reg = get_or-set_other old.mirrored reg (field_of c n).shape.reg x 0 other in
          let at_y : get_or (set old.desired reg y) (field_of c n).shape.reg 0 ≡ desired_of old (field_of c n).shape.reg = get_or-set_other old.desired reg (field_of c n).shape.reg y 0 other in
          inr (record { mirrored = λ b in_it. ap (λ v. bit v b) at_x; desired = λ b in_it. ap (λ v. bit v b) at_y; mark = inl (others n l other) })
    ]

spent_bit : (c : ChipData) (reg fields n : ℕ) (spent : List Bool) → n < length spent → get_or (spent_after c reg fields spent) n false ≡ (get_or spent n false || is_spent_by c reg fields n)
unfolding spent_after
spent_bit c reg fields n spent l = get_or-map-range_with_len (λ n. get_or spent n false || is_spent_by c reg fields n) 0 (length spent) n n false l (omega arith)

not_spent : (x t : Bool) → t ≡ false → (x || t) ≡ x
not_spent true t e = refl
not_spent false t e = e

not_both : (t : Bool) → (t && false) ≡ false
not_both true = refl
not_both false = refl

pub write_reach : (c : ChipData) (reg word fields : ℕ) (m : MirrorData) → IsSound c → reg < length c.regs → IsMirrorOf c m → IsReachable c m → IsReachable c (predict_write c reg word fields m)
unfolding predict_write learned_by_write
write_reach c reg word fields m sound lr built = keeps c m (predict_write c reg word fields m) (one_register c m reg (value (mirrored_of m reg)) (value (desired_of m reg)) (spent_after c reg fields
    m.spent) built lr others own)
  where
    part : (kept k b : ℕ) → Bool
    part kept k b = cond (bit fields k) (after_write (policy_in (fields_of c reg) k) (bit (mirrored_of m reg) b) (bit word b) (marks_in c m.spent reg k)) (bit kept b)

    value : ℕ → ℕ
    value kept = word_by_field (fields_of c reg) (part kept)

    others : (n : ℕ) → n < length c.fields → ((field_of c n).shape.reg ≡ reg → ⊥) → get_or (spent_after c reg fields m.spent) n false ≡ is_spent m n
    others n l other =
        spent_bit c reg fields n m.spent (omega (arith, built.marks))
        ∙ not_spent (is_spent m n) (is_spent_by c reg fields n) (rw (ne_eqb (field_of c n).shape.reg reg other) refl)

    at : (n b kept : ℕ) → n < length c.fields → (field_of c n).shape.reg ≡ reg → covers (field_of c n).shape b ≡ true → bit (value kept) b ≡ part kept (n - first_of c reg) b
    at n b kept l same in_it =
        subst (λ (r : ℕ). bit (word_by_field (fields_of c r) (part kept)) b ≡ part kept (n - first_of c r) b) same (field_bit c n b (part kept) sound l in_it)

    own : (n : ℕ) → n < length c.fields → (field_of c n).shape.reg ≡ reg
        → AgreeOn (field_of c n).shape (value (desired_of m reg)) (value (mirrored_of m reg))
        ⊎ IsKept (field_of c n).shape (mirrored_of m reg) (desired_of m reg) (value (mirrored_of m reg)) (value (desired_of m reg)) (is_spent m n) (get_or (spent_after c reg fields m.spent) n false)
    own n l same =
        elim (cases_Bool (bit fields (n - first_of c reg))) [
          | inl chosen ↦
              let k = n - first_of c reg in
              let made : (b kept : ℕ) → covers (field_of c n).shape b ≡ true → bit (value kept) b ≡ after_write (policy_in (fields_of c reg) k) (bit (mirrored_of m reg) b) (bit word b)
              (marks_in c m.spent reg k) = λ b kept in_it.
              at n b kept l same in_it ∙ cond-true (bit fields k) (after_write (policy_in (fields_of c reg) k) (bit (mirrored_of m reg) b) (bit word b) (marks_in c m.spent reg k)) (bit kept b) chosen
              in
              inl (λ b in_it. made b (desired_of m reg) in_it ∙ sym (made b (mirrored_of m reg) in_it))
          | inr left ↦ inr (record {
            mirrored = λ b in_it. at n b (mirrored_of m reg) l same in_it ∙ rw left refl;
            desired = λ b in_it. at n b (desired_of m reg) l same in_it ∙ rw left refl;
            mark = inl (spent_bit c reg fields n m.spent (omega (arith, built.marks)) ∙ not_spent (is_spent m n) (is_spent_by c reg fields n) (rw left (not_both (eqb (field_of c n).shape.reg reg))));
          })
        ]

pub read_reach : (c : ChipData) (reg read fields : ℕ) (m : MirrorData) → IsSound c → reg < length c.regs → IsMirrorOf c m → IsReachable c m → IsReachable c (predict_read c reg read fields m)
unfolding predict_read learned_by_read
read_reach c reg read fields m sound lr built = keeps c m (predict_read c reg read fields m) (one_register c m reg (value (mirrored_of m reg)) (value (desired_of m reg)) m.spent built lr
    (λ n l other. refl) own)
  where
    part : (kept k b : ℕ) → Bool
    part kept k b = cond (bit fields k) (learned_bit (policy_in (fields_of c reg) k) (bit read b) (bit kept b)) (bit kept b)

    value : ℕ → ℕ
    value kept = word_by_field (fields_of c reg) (part kept)

    at : (n b kept : ℕ) → n < length c.fields → (field_of c n).shape.reg ≡ reg → covers (field_of c n).shape b ≡ true → bit (value kept) b ≡ part kept (n - first_of c reg) b
    at n b kept l same in_it =
        subst (λ (r : ℕ). bit (word_by_field (fields_of c r) (part kept)) b ≡ part kept (n - first_of c r) b) same (field_bit c n b (part kept) sound l in_it)

    Result : ℕ → Type 0
    Result n =
        AgreeOn (field_of c n).shape (value (desired_of m reg)) (value (mirrored_of m reg))
        ⊎ IsKept (field_of c n).shape (mirrored_of m reg) (desired_of m reg) (value (mirrored_of m reg)) (value (desired_of m reg)) (is_spent m n) (is_spent m n)

    kept : (n : ℕ) → n < length c.fields → (field_of c n).shape.reg ≡ reg → ((b kept : ℕ) → part kept (n - first_of c reg) b ≡ bit kept b) → Result n
    kept n l same as_was = inr (record {
      mirrored = λ b in_it. at n b (mirrored_of m reg) l same in_it ∙ as_was b (mirrored_of m reg);
      desired = λ b in_it. at n b (desired_of m reg) l same in_it ∙ as_was b (desired_of m reg);
      mark = inl refl;
    })

    own : (n : ℕ) → n < length c.fields → (field_of c n).shape.reg ≡ reg → Result n
    own n l same =
        elim (cases_Bool (bit fields (n - first_of c reg))) [
          | inl chosen ↦
              elim (cases_Bool (is_write_only (policy_in (fields_of c reg) (n - first_of c reg)))) [
                | inl hidden ↦ kept n l same (λ b kept. rw (chosen, hidden) refl)
                | inr seen ↦
                    let k = n - first_of c reg in
                    let made : (b kept : ℕ) → covers (field_of c n).shape b ≡ true → bit (value kept) b ≡ after_read (policy_in (fields_of c reg) k) (bit read b) = λ b kept in_it.
                    at n b kept l same in_it ∙ cond-true (bit fields k) (learned_bit (policy_in (fields_of c reg) k) (bit read b) (bit kept b)) (bit kept b) chosen
                    ∙ cond-false (is_write_only (policy_in (fields_of c reg) k)) (bit kept b) (after_read (policy_in (fields_of c reg) k) (bit read b)) seen in
                    inl (λ b in_it. made b (desired_of m reg) in_it ∙ sym (made b (mirrored_of m reg) in_it))
              ]
          | inr left ↦ kept n l same (λ b kept. rw left refl)
        ]

pub raw_reach : (c : ChipData) (reg value : ℕ) (m : MirrorData) → reg < length c.regs → IsMirrorOf c m → IsReachable c m → IsReachable c (predict_raw c reg value m)
unfolding predict_raw
raw_reach c reg value m lr built =
    keeps c m (predict_raw c reg value m) (one_register c m reg (owned (fields_of c reg) value) (owned (fields_of c reg) value) m.spent built lr (λ n l other. refl) (λ n l same. inl
    (λ b in_it. refl)))

-- ---- resets

pub reset_reach : (c : ChipData) (kind : ℕ) (m : MirrorData) → IsSound c → IsMirrorOf c m → IsReachable c m → IsReachable c (reset c kind m)
unfolding reset after_reset
reset_reach c kind m sound built = keeps c m (reset c kind m) steps
  where
    part : (reg kept k b : ℕ) → Bool
    part reg kept k b = reset_bit (field_in (fields_of c reg) k) kind b (bit kept b)

    value_at : (values : List ℕ) (reg : ℕ) → length values ≡ length c.regs → reg < length c.regs
        → get_or (values_after c kind values) reg 0 ≡ word_by_field (fields_of c reg) (part reg (get_or values reg 0))
    value_at values reg long l =
        get_or-map-range_with_len (λ reg. word_by_field (fields_of c reg) (part reg (get_or values reg 0))) 0 (length values) reg reg 0 (omega arith) (omega arith)

    bit_at_field : (values : List ℕ) (n b : ℕ) → length values ≡ length c.regs → n < length c.fields → covers (field_of c n).shape b ≡ true
        → bit (get_or (values_after c kind values) (field_of c n).shape.reg 0) b ≡ reset_bit (field_of c n) kind b (bit (get_or values (field_of c n).shape.reg 0) b)
    bit_at_field values n b long l in_it =
        let reg = (field_of c n).shape.reg in
        ap (λ v. bit v b) (value_at values reg long (seated c n sound l).reg)
        ∙ field_bit c n b (part reg (get_or values reg 0)) sound l in_it
        ∙ ap (λ (f : FieldSeen). reset_bit f kind b (bit (get_or values reg 0) b)) (place_of c n sound l).field

    mark_at : (n : ℕ) → n < length m.spent → (t : Bool) → (get_or (cond t (replicate (length m.spent) false) m.spent) n false ≡ is_spent m n) ⊎ (get_or (cond t (replicate (length m.spent) false)
        m.spent) n false ≡ false)
    mark_at n l true = inr (get_or-replicate (length m.spent) n false false l)
    mark_at n l false = inl refl

    steps : (n : ℕ) → n < length c.fields → Steps c m (reset c kind m) n
    steps n l = by (value_for kind (field_of c n).resets) refl
      where
        by : (o : Option ℕ) → value_for kind (field_of c n).resets ≡ o → Steps c m (reset c kind m) n
        by (Some v) has =
            let made : (values : List ℕ) (b : ℕ) → length values ≡ length c.regs → covers (field_of c n).shape b ≡ true → bit (get_or (values_after c kind values) (field_of c n).shape.reg 0) b ≡ bit
            v (b - (field_of c n).shape.lsb) = λ values b long in_it.
            bit_at_field values n b long l in_it
            ∙ ap (λ (o : Option ℕ). option_map_or (λ v. bit v (b - (field_of c n).shape.lsb)) o (bit (get_or values (field_of c n).shape.reg 0) b)) has in
            inl (λ b in_it. made m.desired b built.wishes in_it ∙ sym (made m.mirrored b built.registers in_it))
        by None none = inr (record {
          mirrored = λ b in_it. bit_at_field m.mirrored n b built.registers l in_it ∙ rw none refl;
          desired = λ b in_it. bit_at_field m.desired n b built.wishes l in_it ∙ rw none refl;
          mark = mark_at n (omega (arith, built.marks)) (eqb kind 0);
        })

blank_reach : (c : ChipData) → IsReachable c (blank c)
blank_reach c = record {
  reached = λ n l two. settled_reached c (blank c) n two (λ b in_it. refl);
  one_sided = λ n l one. inl (λ b in_it. refl);
}

pub reached_after : (c : ChipData) (kind : ℕ) (m n : MirrorData) → n ≡ reset c kind m → IsSound c → IsMirrorOf c m → IsReachable c m → IsReachable c n
reached_after c kind m n is sound built was = subst (λ (x : MirrorData). IsReachable c x) (sym is) (reset_reach c kind m sound built was)

pub fresh_reach : (c : ChipData) → IsSound c → IsReachable c (fresh c)
unfolding fresh
fresh_reach c sound = reset_reach c 0 (blank c) sound (blank_built c) (blank_reach c)

-- ---- a field that is set

pub set_reach : (c : ChipData) (field v : ℕ) (m : MirrorData) → IsSound c → field < length c.fields → IsMirrorOf c m → IsReachable c m → IsReachable c (set_field c field v m)
unfolding set_field
set_reach c field v m sound lf built was = record {
  reached = λ n l two. elim (cases_eq n field) [
    | inl same ↦ subst (λ (k : ℕ). IsReached c (set_field c field v m) k) (sym same) (own (λ b in_it. keeps_reach.set p (old_m b) (old_d b) (wish b) s (subst (λ (k : ℕ). IsReached c m k) same
        (was.reached n l two) b in_it)))
    | inr other ↦ kept_reached c m (set_field c field v m) n (kept n l other) (was.reached n l two)
  ];
  one_sided = λ n l one. elim (cases_eq n field) [
    | inl same ↦ subst (λ (k : ℕ). IsSettled c (set_field c field v m) k ⊎ IsReached c (set_field c field v m) k) (sym same)
        (inr (own (λ b in_it. keeps_reach.set_one_sided p (old_m b) (old_d b) (wish b) s (subst (λ (k : ℕ). is_one_sided (field_of c k).shape.policy ≡ true) same one))))
    | inr other ↦ elim (was.one_sided n l one) [
      | inl settled ↦ let k = kept n l other in inl (λ b in_it. k.desired b in_it ∙ settled b in_it ∙ sym (k.mirrored b in_it))
      | inr h ↦ inr (kept_reached c m (set_field c field v m) n (kept n l other) h)
    ]
  ];
}
  where
    f : Field
    f = (field_of c field).shape

    p : Policy
    p = f.policy

    s : Bool
    s = is_spent m field

    old_m : ℕ → Bool
    old_m b = bit (mirrored_of m f.reg) b

    old_d : ℕ → Bool
    old_d b = bit (desired_of m f.reg) b

    wish : ℕ → Bool
    wish b = bit v (b - f.lsb)

    new_bits : ℕ → Bool
    new_bits = put_bit f.lsb f.width (λ b. after_write p (bit (desired_of m f.reg) (f.lsb + b)) (bit v b) s) (bit (desired_of m f.reg))

    new_d : ℕ
    new_d = from_bits 64 new_bits

    at_d : get_or (set m.desired f.reg new_d) f.reg 0 ≡ new_d
    at_d = get_or-set_same m.desired f.reg new_d 0 (omega (arith, built.wishes, (seated c field sound lf).reg))

    set_bit : (b : ℕ) → covers f b ≡ true → bit (get_or (set m.desired f.reg new_d) f.reg 0) b ≡ after_write p (old_d b) (wish b) s
    set_bit b in_it =
        let (from, to) = and_parts (nat_le f.lsb b) (nat_lt b (f.lsb + f.width)) in_it in
        let low : f.lsb ≤ b = leb-true f.lsb b from in
        let back : f.lsb + (b - f.lsb) ≡ b = omega arith in
        ap (λ x. bit x b) at_d ∙ bit-from_bits 64 new_bits b (below_64 c field b sound lf in_it)
        ∙ cond-true (is_within f.lsb f.width b) (after_write p (bit (desired_of m f.reg) (f.lsb + (b - f.lsb))) (bit v (b - f.lsb)) s) (bit (desired_of m f.reg) b) in_it
        ∙ ap (λ i. after_write p (bit (desired_of m f.reg) i) (bit v (b - f.lsb)) s) back

    own : ((b : ℕ) → covers f b ≡ true → IsTrue (is_reached p (old_m b) (after_write p (old_d b) (wish b) s) s)) → IsReached c (set_field c field v m) field
    own h b in_it = subst (λ (d : Bool). IsTrue (is_reached p (old_m b) d s)) (sym (set_bit b in_it)) (h b in_it)

    kept : (n : ℕ) → n < length c.fields → (n ≡ field → ⊥)
        → IsKept (field_of c n).shape (mirrored_of m (field_of c n).shape.reg) (desired_of m (field_of c n).shape.reg) (mirrored_of m (field_of c n).shape.reg) (get_or (set m.desired f.reg new_d)
        (field_of c n).shape.reg 0) (is_spent m n) (is_spent m n)
    kept n l other = record {
      mirrored = λ b in_it. refl;
      desired = λ b in_it.
          elim (cases_eq (field_of c n).shape.reg f.reg) [
            | inl same ↦
                let apart : covers f b ≡ false = false_from_ne_true (covers f b) (λ in_f. other (apart_fields c n field b sound l lf same in_it in_f)) in
                ap (λ r. bit (get_or (set m.desired f.reg new_d) r 0) b) same ∙ ap (λ x. bit x b) at_d ∙ bit-from_bits 64 new_bits b (below_64 c n b sound l in_it)
                ∙ cond-false (is_within f.lsb f.width b) (after_write p (bit (desired_of m f.reg) (f.lsb + (b - f.lsb))) (bit v (b - f.lsb)) s) (bit (desired_of m f.reg) b) apart
                ∙ ap (λ r. bit (desired_of m r) b) (sym same)
            | inr elsewhere ↦ ap (λ x. bit x b) (get_or-set_other m.desired f.reg (field_of c n).shape.reg new_d 0 elsewhere)
          ];
      mark = inl refl;
    }

-- ---- the law of updates

-- two values that agree on a field hold the same value in it
same_part : (f : Field) (x y : ℕ) → AgreeOn f x y → part_of f x ≡ part_of f y
same_part f x y agree = from_bits-same f.width (λ i. bit x (f.lsb + i)) (λ i. bit y (f.lsb + i)) (λ i l.
    agree (f.lsb + i) (and_from (nat_le f.lsb (f.lsb + i)) (nat_lt (f.lsb + i) (f.lsb + f.width)) (le-leb f.lsb (f.lsb + i) (omega arith)) (lt-ltb (f.lsb + i) (f.lsb + f.width) (omega arith))))

-- a bit that is written by its update word
updated_bit : (c : ChipData) (m : MirrorData) (n kept b : ℕ) → IsSound c → n < length c.fields → IsReached c m n → covers (field_of c n).shape b ≡ true
    → bit (learned_by_write (fields_of c (field_of c n).shape.reg) (bit (2 ^ 64 - 1)) (marks_in c m.spent (field_of c n).shape.reg) (mirrored_of m (field_of c n).shape.reg) (update_word_of c
    (field_of c n).shape.reg m) kept) b
    ≡ bit (desired_of m (field_of c n).shape.reg) b
unfolding learned_by_write update_word_of update_word
updated_bit c m n kept b sound l h in_it =
    field_bit c n b (λ k b. cond (bit (2 ^ 64 - 1) k) (wrote k b) (bit kept b)) sound l in_it
    ∙ cond-true (bit (2 ^ 64 - 1) at) (wrote at b) (bit kept b) (bit-max at (omega (arith, place.place, list.few)))
    ∙ ap (λ t. after_write (policy_in fs at) (bit (mirrored_of m reg) b) t (marks_in c m.spent reg at)) (field_bit c n b (λ k b. update_bit (policy_in fs k) (bit (desired_of m reg) b)
    (bit (mirrored_of m reg) b)) sound l in_it)
    ∙ ap (λ (g : FieldSeen). after_write g.shape.policy (bit (mirrored_of m reg) b) (update_bit g.shape.policy (bit (desired_of m reg) b) (bit (mirrored_of m reg) b)) (marks_in c m.spent reg at))
    place.field
    ∙ ap (λ k. after_write (field_of c n).shape.policy (bit (mirrored_of m reg) b) (update_bit (field_of c n).shape.policy (bit (desired_of m reg) b) (bit (mirrored_of m reg) b)) (is_spent m k))
    place.number
    ∙ (update_reaches (field_of c n).shape.policy (bit (mirrored_of m reg) b) (bit (desired_of m reg) b) (is_spent m n)).1 (h b in_it)
  where
    reg : ℕ
    reg = (field_of c n).shape.reg

    fs : List FieldSeen
    fs = fields_of c reg

    at : ℕ
    at = at_of c n

    place : IsAt c n at
    place = place_of c n sound l

    list : IsFieldList (8 * size_of c reg) fs
    list = field_list c reg sound (seated c n sound l).reg

    wrote : (k b : ℕ) → Bool
    wrote k b = after_write (policy_in fs k) (bit (mirrored_of m reg) b) (bit (update_word_of c reg m) b) (marks_in c m.spent reg k)

pub update_brings : (c : ChipData) → IsSound c → UpdateBrings c
unfolding predict_write
update_brings c sound m n built l h = record {
  mirrored = same_part f (mirrored_of (after_update c f.reg m) f.reg) (desired_of m f.reg) (λ b in_it. ap (λ v. bit v b) at_mirrored ∙ updated_bit c m n (mirrored_of m f.reg) b sound l h in_it);
  desired = same_part f (desired_of (after_update c f.reg m) f.reg) (desired_of m f.reg) (λ b in_it. ap (λ v. bit v b) at_desired ∙ updated_bit c m n (desired_of m f.reg) b sound l h in_it);
}
  where
    f : Field
    f = (field_of c n).shape

    new : ℕ → ℕ
    new kept = learned_by_write (fields_of c f.reg) (bit (2 ^ 64 - 1)) (marks_in c m.spent f.reg) (mirrored_of m f.reg) (update_word_of c f.reg m) kept

    at_mirrored : get_or (set m.mirrored f.reg (new (mirrored_of m f.reg))) f.reg 0 ≡ new (mirrored_of m f.reg)
    at_mirrored = get_or-set_same m.mirrored f.reg (new (mirrored_of m f.reg)) 0 (omega (arith, built.registers, (seated c n sound l).reg))

    at_desired : get_or (set m.desired f.reg (new (desired_of m f.reg))) f.reg 0 ≡ new (desired_of m f.reg)
    at_desired = get_or-set_same m.desired f.reg (new (desired_of m f.reg)) 0 (omega (arith, built.wishes, (seated c n sound l).reg))
