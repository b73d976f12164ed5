-- What is believed after a prediction is the plain machine after a step.
use Rattle.std.proofs.Common.{◌≡◌, ◌⊎◌, ℕ, ◌+◌, ◌-◌, ◌<◌, ◌≤◌, Bool, true, false, cond, not, ◌&&◌, ◌||◌, eqb, eq-eqb, ne_eqb}
use Rattle.std.proofs.Common.{List, length, map, get_or, Option, None, Some, refl, sym, ap, ◌∙◌, subst, inl, inr, arith}
use Rattle.std.specs.Prelude.{slice_set}
use Rattle.std.specs.List.{range_with_len}
use Rattle.std.specs.Option.{option_map_or}
use Rattle.std.proofs.lemmas.Bool.{cases_eq}
use Rattle.std.proofs.lemmas.List.{same_lists, get_or_default}
use Rattle.std.proofs.lemmas.List.FromFn.{get_or-map-range_with_len, length-map-range_with_len}
use Rattle.rl_policy.specs.Bits.{bit}
use Rattle.rl_policy.specs.Table.{after_write, after_read, value_read, spends_mark, is_write_only}
use Rattle.rl_policy.specs.declared.policy.Policy.{Policy}
use Rattle.rl_policy.specs.declared.policy.Policy.TheVariants.{Wo, Woc, Wos, Wo1}
use Rattle.rl_policy.proofs.BitLemmas.{from_bits-same, bit-from_bits}
use Rattle.rl_model.specs.Rows.{FieldSeen, ChipData}
use Rattle.rl_model.specs.Chip.{IsSound}
use Rattle.rl_model.specs.Fields.{field_of, first_of, count_of, fields_of, policy_in, place_at}
use Rattle.rl_split.specs.Step.{Register, wstep, rstep, ranswer, written_bit, left_bit, shown_bit}
use Rattle.rl_mirror.specs.Mirror.{MirrorData, IsMirrorOf, desired_of, marks_in}
use Rattle.rl_mirror.specs.Prediction.{predict_write, predict_read, learned_by_write, learned_by_read, learned_bit, spent_after, is_spent_by}
use Rattle.rl_mirror.specs.Fields.{word_by_field}
use Rattle.rl_mirror.proofs.FieldLemmas.{seated, length-fields_of}
use Rattle.rl_mirror.proofs.PlaceLemmas.{place_is}
use Rattle.rl_mirror.proofs.SpentLemmas.{length-spent_after}
use Rattle.rl_plain.specs.OneStep.{Step, write_step, read_step, no_step}
use Rattle.rl_plain.specs.Machine.{Machine, register_at, mirror_of, desired_after, stepped}
use Rattle.rl_plain.proofs.Registers.{AreChosen, written_bits, left_bits, bit-ranswer, marks_after}
use Rattle.rl_plain.proofs.Followed.{FollowsStep}
use Rattle.rl_plain.proofs.Agreement.{spent-wstep, spent-rstep}

-- ---- desired values

bit-wstep : (fs : List FieldSeen) (chosen : ℕ → Bool) (word : ℕ) (r : Register) (b : ℕ) → b < 64 → bit (wstep fs chosen word r).bits b ≡ written_bit fs chosen r.spent (place_at fs b) (bit r.bits b)
    (bit word b)
unfolding wstep
bit-wstep fs chosen word r b low = bit-from_bits 64 (λ b. written_bit fs chosen r.spent (place_at fs b) (bit r.bits b) (bit word b)) b low

bit-rstep : (fs : List FieldSeen) (chosen : ℕ → Bool) (r : Register) (b : ℕ) → b < 64 → bit (rstep fs chosen r).bits b ≡ left_bit fs chosen (place_at fs b) (bit r.bits b)
unfolding rstep
bit-rstep fs chosen r b low = bit-from_bits 64 (λ b. left_bit fs chosen (place_at fs b) (bit r.bits b)) b low

settled_write : (t u x y v : Bool) → t ≡ u → v ≡ cond t x y → (z : Bool) → cond u x z ≡ cond t v z
settled_write true true x y v e f z = sym f
settled_write false false x y v e f z = refl
settled_write true false x y v e f z = absurd (cc)
settled_write false true x y v e f z = absurd (cc)

desired_written : (fs : List FieldSeen) (chosen : ℕ → Bool) (fields word desired : ℕ) (r : Register) → AreChosen fs chosen fields →
    learned_by_write fs (bit fields) r.spent r.bits word desired ≡ desired_after fs (write_step chosen word) (wstep fs chosen word r).bits desired
unfolding learned_by_write word_by_field
desired_written fs chosen fields word desired r are =
    from_bits-same 64 (λ b. option_map_or (λ k. cond (bit fields k) (after_write (policy_in fs k) (bit r.bits b) (bit word b) (r.spent k)) (bit desired b)) (place_at fs b) false)
    (λ b. option_map_or (λ k. cond (chosen k) (bit (wstep fs chosen word r).bits b) (bit desired b)) (place_at fs b) false)
    (λ b low. by b low (place_at fs b) refl)
  where
    by : (b : ℕ) → b < 64 → (o : Option ℕ) → place_at fs b ≡ o →
        option_map_or (λ k. cond (bit fields k) (after_write (policy_in fs k) (bit r.bits b) (bit word b) (r.spent k)) (bit desired b)) o false ≡ option_map_or (λ k. cond (chosen k)
        (bit (wstep fs chosen word r).bits b) (bit desired b)) o false
    by b low None at = refl
    by b low (Some k) at =
        settled_write (chosen k) (bit fields k) (after_write (policy_in fs k) (bit r.bits b) (bit word b) (r.spent k)) (bit r.bits b) (bit (wstep fs chosen word r).bits b)
        (are.same k (place_is fs b k at).0)
        (bit-wstep fs chosen word r b low ∙ ap (λ o. written_bit fs chosen r.spent o (bit r.bits b) (bit word b)) at)
        (bit desired b)

-- what a read tells of a field
told_is : (p : Policy) (x z : Bool) → learned_bit p (value_read p x) z ≡ cond (not (is_write_only p)) (after_read p x) z
told_is Wo x z = refl
told_is Woc x z = refl
told_is Wos x z = refl
told_is Wo1 x z = refl
told_is _ x z = refl

settled_read : (t u : Bool) (p : Policy) (x y v z : Bool) → t ≡ u → y ≡ (t && value_read p x) → v ≡ cond t (after_read p x) x → cond u (learned_bit p y z) z ≡ cond (t && not (is_write_only p)) v z
settled_read true true p x y v z e f g = ap (λ w. learned_bit p w z) f ∙ told_is p x z ∙ ap (λ w. cond (not (is_write_only p)) w z) (sym g)
settled_read false false p x y v z e f g = refl
settled_read true false p x y v z e f g = absurd (cc)
settled_read false true p x y v z e f g = absurd (cc)

desired_left : (fs : List FieldSeen) (chosen : ℕ → Bool) (fields desired : ℕ) (r : Register) → AreChosen fs chosen fields →
    learned_by_read fs (bit fields) (ranswer fs chosen r) desired ≡ desired_after fs (read_step chosen) (rstep fs chosen r).bits desired
unfolding learned_by_read word_by_field
desired_left fs chosen fields desired r are =
    from_bits-same 64 (λ b. option_map_or (λ k. cond (bit fields k) (learned_bit (policy_in fs k) (bit (ranswer fs chosen r) b) (bit desired b)) (bit desired b)) (place_at fs b) false)
    (λ b. option_map_or (λ k. cond (chosen k && not (is_write_only (policy_in fs k))) (bit (rstep fs chosen r).bits b) (bit desired b)) (place_at fs b) false)
    (λ b low. by b low (place_at fs b) refl)
  where
    by : (b : ℕ) → b < 64 → (o : Option ℕ) → place_at fs b ≡ o →
        option_map_or (λ k. cond (bit fields k) (learned_bit (policy_in fs k) (bit (ranswer fs chosen r) b) (bit desired b)) (bit desired b)) o false
        ≡ option_map_or (λ k. cond (chosen k && not (is_write_only (policy_in fs k))) (bit (rstep fs chosen r).bits b) (bit desired b)) o false
    by b low None at = refl
    by b low (Some k) at =
        settled_read (chosen k) (bit fields k) (policy_in fs k) (bit r.bits b) (bit (ranswer fs chosen r) b) (bit (rstep fs chosen r).bits b) (bit desired b)
        (are.same k (place_is fs b k at).0)
        (bit-ranswer fs chosen r b low ∙ ap (λ o. shown_bit fs chosen o (bit r.bits b)) at)
        (bit-rstep fs chosen r b low ∙ ap (λ o. left_bit fs chosen o (bit r.bits b)) at)

-- ---- marks

abbrev mark_by : ChipData → (reg : ℕ) → (ℕ → Bool) → List Bool → ℕ → Bool
mark_by c reg marks spent n = cond (eqb (field_of c n).shape.reg reg) (marks (n - first_of c reg)) (get_or spent n false)

-- the marks of the register's fields are these, and those of other registers stay
record AreReplaced (c : ChipData) (reg : ℕ) (marks : ℕ → Bool) (spent after : List Bool) : Type 0 where
  many : length after ≡ length spent
  own : (k : ℕ) → k < length (fields_of c reg) → marks k ≡ marks_in c after reg k
  others : (n : ℕ) → n < length c.fields → ((field_of c n).shape.reg ≡ reg → ⊥) → get_or after n false ≡ get_or spent n false

mark_of : (c : ChipData) (reg : ℕ) (marks : ℕ → Bool) (spent after : List Bool) (n : ℕ) → IsSound c → reg < length c.regs → AreReplaced c reg marks spent after → n < length c.fields →
    ((field_of c n).shape.reg ≡ reg) ⊎ ((field_of c n).shape.reg ≡ reg → ⊥) → get_or after n false ≡ mark_by c reg marks spent n
mark_of c reg marks spent after n sound l are inside (inl here) =
    let s = seated c n sound inside in
    let first : first_of c reg ≤ n = subst (λ r. first_of c r ≤ n) here s.first in
    let last : n < first_of c reg + count_of c reg = subst (λ r. n < first_of c r + count_of c r) here s.last in
    let k = n - first_of c reg in
    let all : length (fields_of c reg) ≡ count_of c reg = length-fields_of c reg sound l in
    let number : first_of c reg + k ≡ n = omega arith in
    let place : k < length (fields_of c reg) = omega arith in
    ap (λ j. get_or after j false) (sym number)
    ∙ sym (are.own k place)
    ∙ sym (ap (λ t. cond t (marks k) (get_or spent n false)) (eq-eqb (field_of c n).shape.reg reg here))
mark_of c reg marks spent after n sound l are inside (inr other) =
    are.others n inside other ∙ sym (ap (λ t. cond t (marks (n - first_of c reg)) (get_or spent n false)) (ne_eqb (field_of c n).shape.reg reg other))

replaced : (c : ChipData) (reg : ℕ) (marks : ℕ → Bool) (spent after : List Bool) → IsSound c → reg < length c.regs → length spent ≡ length c.fields → AreReplaced c reg marks spent after →
    after ≡ map (mark_by c reg marks spent) (range_with_len 0 (length spent))
replaced c reg marks spent after sound l long are =
    same_lists after (map (mark_by c reg marks spent) (range_with_len 0 (length spent))) (are.many ∙ sym (length-map-range_with_len (mark_by c reg marks spent) 0 (length spent)))
    (λ n d inside.
    let within : n < length spent = omega (arith, inside, are.many) in
    let field : n < length c.fields = omega (arith, within, long) in
    get_or_default after n d false inside
    ∙ mark_of c reg marks spent after n sound l are field (cases_eq (field_of c n).shape.reg reg)
    ∙ sym (get_or-map-range_with_len (mark_by c reg marks spent) 0 (length spent) n n d within (omega arith)))

or_none : (t : Bool) → (t || false) ≡ t
or_none true = refl
or_none false = refl

-- a write leaves the marks of other registers
others_stay : (c : ChipData) (reg fields n : ℕ) (spent : List Bool) → n < length spent → ((field_of c n).shape.reg ≡ reg → ⊥) → get_or (spent_after c reg fields spent) n false ≡ get_or spent n false
unfolding spent_after
others_stay c reg fields n spent inside other =
    get_or-map-range_with_len (λ n. get_or spent n false || is_spent_by c reg fields n) 0 (length spent) n n false inside (omega arith)
    ∙ ap (λ t. get_or spent n false || (t && (bit fields (n - first_of c reg) && spends_mark (field_of c n).shape.policy))) (ne_eqb (field_of c n).shape.reg reg other)
    ∙ or_none (get_or spent n false)

-- ---- the whole mirror

abbrev mirror_with : List ℕ → List ℕ → List Bool → MirrorData
mirror_with mirrored desired spent = record { mirrored = mirrored; desired = desired; spent = spent }

same_mirror : (a b x y : List ℕ) (s t : List Bool) → a ≡ b → x ≡ y → s ≡ t → mirror_with a x s ≡ mirror_with b y t
same_mirror a b x y s t p q r = ap (λ l. mirror_with l x s) p ∙ ap (λ l. mirror_with b l s) q ∙ ap (λ l. mirror_with b y l) r

write_stepped : (c : ChipData) (reg word fields : ℕ) (chosen : ℕ → Bool) (p : Machine) → IsSound c → reg < length c.regs → IsMirrorOf c (mirror_of p) → AreChosen (fields_of c reg) chosen fields →
    predict_write c reg word fields (mirror_of p) ≡ mirror_of (stepped c reg (write_step chosen word) p)
unfolding predict_write
write_stepped c reg word fields chosen p sound l built are =
    let m = mirror_of p in
    let fs = fields_of c reg in
    let r = register_at c p reg in
    let x = wstep fs chosen word r in
    same_mirror (slice_set m.mirrored reg (learned_by_write fs (bit fields) r.spent r.bits word r.bits)) (slice_set m.mirrored reg x.bits)
    (slice_set m.desired reg (learned_by_write fs (bit fields) r.spent r.bits word (desired_of m reg))) (slice_set m.desired reg (desired_after fs (write_step chosen word) x.bits (desired_of m reg)))
    (spent_after c reg fields m.spent) (map (mark_by c reg x.spent m.spent) (range_with_len 0 (length m.spent)))
    (ap (slice_set m.mirrored reg) (sym (written_bits fs chosen fields word r (built.mirrored reg l).owned are)))
    (ap (slice_set m.desired reg) (desired_written fs chosen fields word (desired_of m reg) r are))
    (replaced c reg x.spent m.spent (spent_after c reg fields m.spent) sound l built.marks
    (record {
      many = length-spent_after c reg fields m.spent;
      own = λ k place. spent-wstep fs chosen word r k ∙ marks_after c reg fields k m.spent chosen sound l built.marks place are;
      others = λ n inside other. others_stay c reg fields n m.spent (omega (arith, inside, built.marks)) other;
    }))

pub read_stepped : (c : ChipData) (reg fields : ℕ) (chosen : ℕ → Bool) (p : Machine) → IsSound c → reg < length c.regs → IsMirrorOf c (mirror_of p) → AreChosen (fields_of c reg) chosen fields →
    predict_read c reg (ranswer (fields_of c reg) chosen (register_at c p reg)) fields (mirror_of p) ≡ mirror_of (stepped c reg (read_step chosen) p)
unfolding predict_read
read_stepped c reg fields chosen p sound l built are =
    let m = mirror_of p in
    let fs = fields_of c reg in
    let r = register_at c p reg in
    let x = rstep fs chosen r in
    let read = ranswer fs chosen r in
    same_mirror (slice_set m.mirrored reg (learned_by_read fs (bit fields) read r.bits)) (slice_set m.mirrored reg x.bits)
    (slice_set m.desired reg (learned_by_read fs (bit fields) read (desired_of m reg))) (slice_set m.desired reg (desired_after fs (read_step chosen) x.bits (desired_of m reg)))
    m.spent (map (mark_by c reg x.spent m.spent) (range_with_len 0 (length m.spent)))
    (ap (slice_set m.mirrored reg) (sym (left_bits fs chosen fields r (built.mirrored reg l).owned are)))
    (ap (slice_set m.desired reg) (desired_left fs chosen fields (desired_of m reg) r are))
    (replaced c reg x.spent m.spent m.spent sound l built.marks (record { many = refl; own = λ k place. spent-rstep fs chosen r k; others = λ n inside other. refl }))

-- what is believed after a step is the machine's
pub plain_state : (c : ChipData) (reg : ℕ) (p : Machine) (new : MirrorData) (step : Step) → IsSound c → reg < length c.regs → IsMirrorOf c (mirror_of p) → FollowsStep c reg (mirror_of p) new
    (register_at c p reg) step → new ≡ mirror_of (stepped c reg step p)
plain_state c reg p new (write_step chosen word) sound l built f = f.is ∙ write_stepped c reg word f.fields chosen p sound l built f.are
plain_state c reg p new (read_step chosen) sound l built f = f.is ∙ read_stepped c reg f.fields chosen p sound l built f.are
plain_state c reg p new no_step sound l built f = f
