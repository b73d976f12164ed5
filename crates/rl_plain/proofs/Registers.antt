-- A step of a register, and what is then believed of it.
use Rattle.std.proofs.Common.{◌≡◌, ℕ, ◌+◌, ◌-◌, ◌<◌, Bool, true, false, cond, ◌&&◌, ◌||◌, eqb, eq-eqb, ne_eqb, List, length, get_or, Option, None, Some, refl, sym, ap, ◌∙◌, arith}
use Rattle.std.specs.Option.{option_map_or}
use Rattle.std.proofs.lemmas.List.FromFn.{get_or-map-range_with_len}
use Rattle.rl_policy.specs.Bits.{bit}
use Rattle.rl_policy.specs.Table.{after_write, after_read, value_read, spends_mark}
use Rattle.rl_policy.specs.declared.policy.Policy.{Policy}
use Rattle.rl_policy.specs.declared.policy.Policy.TheVariants.{Wo, Woc, Wos, Wo1}
use Rattle.rl_policy.proofs.BitLemmas.{bit-from_bits, from_bits-same}
use Rattle.rl_model.specs.Rows.{FieldSeen, ChipData}
use Rattle.rl_model.specs.Chip.{IsSound}
use Rattle.rl_model.specs.Fields.{field_of, first_of, count_of, fields_of, policy_in, place_at}
use Rattle.rl_split.specs.Step.{Register, wstep, rstep, ranswer, written_bit, left_bit, shown_bit}
use Rattle.rl_mirror.specs.Fields.{owned, word_by_field}
use Rattle.rl_mirror.specs.Mirror.{marks_in}
use Rattle.rl_mirror.specs.Prediction.{learned_by_write, learned_by_read, learned_bit, spent_after, is_spent_by}
use Rattle.rl_mirror.proofs.PlaceLemmas.{place_is}
use Rattle.rl_mirror.proofs.WordLemmas.{owned_bit}
use Rattle.rl_mirror.proofs.FieldLemmas.{length-fields_of, field_in-fields_of, number_within, owner_is}

-- ---- bits

-- the chosen fields are those of the number's bits
pub record AreChosen (fs : List FieldSeen) (chosen : ℕ → Bool) (fields : ℕ) : Type 0 where
  pub same : (k : ℕ) → k < length fs → chosen k ≡ bit fields k

pub written_bits : (fs : List FieldSeen) (chosen : ℕ → Bool) (fields word : ℕ) (r : Register) → r.bits ≡ owned fs r.bits → AreChosen fs chosen fields →
    (wstep fs chosen word r).bits ≡ learned_by_write fs (bit fields) r.spent r.bits word r.bits
unfolding wstep learned_by_write word_by_field
written_bits fs chosen fields word r own are =
    from_bits-same 64 (λ b. written_bit fs chosen r.spent (place_at fs b) (bit r.bits b) (bit word b))
    (λ b. option_map_or (λ k. cond (bit fields k) (after_write (policy_in fs k) (bit r.bits b) (bit word b) (r.spent k)) (bit r.bits b)) (place_at fs b) false)
    (λ b l. by b l (place_at fs b) refl)
  where
    by : (b : ℕ) → b < 64 → (o : Option ℕ) → place_at fs b ≡ o →
        written_bit fs chosen r.spent o (bit r.bits b) (bit word b) ≡ option_map_or (λ k. cond (bit fields k) (after_write (policy_in fs k) (bit r.bits b) (bit word b) (r.spent k)) (bit r.bits b)) o
        false
    by b l None at = owned_bit fs r.bits b own l ∙ ap (λ (o : Option ℕ). option_map_or (λ k. bit r.bits b) o false) at
    by b l (Some k) at = ap (λ t. cond t (after_write (policy_in fs k) (bit r.bits b) (bit word b) (r.spent k)) (bit r.bits b)) (are.same k (place_is fs b k at).0)

-- a read leaves what is learned of its answer
pub learned_is : (p : Policy) (x : Bool) → after_read p x ≡ learned_bit p (value_read p x) x
learned_is Wo x = refl
learned_is Woc x = refl
learned_is Wos x = refl
learned_is Wo1 x = refl
learned_is _ x = refl

left_is : (t : Bool) (p : Policy) (x y : Bool) → y ≡ (t && value_read p x) → cond t (after_read p x) x ≡ cond t (learned_bit p y x) x
left_is true p x y e = learned_is p x ∙ ap (λ v. learned_bit p v x) (sym e)
left_is false p x y e = refl

pub bit-ranswer : (fs : List FieldSeen) (chosen : ℕ → Bool) (r : Register) (b : ℕ) → b < 64 → bit (ranswer fs chosen r) b ≡ shown_bit fs chosen (place_at fs b) (bit r.bits b)
unfolding ranswer
bit-ranswer fs chosen r b l = bit-from_bits 64 (λ b. shown_bit fs chosen (place_at fs b) (bit r.bits b)) b l

pub left_bits : (fs : List FieldSeen) (chosen : ℕ → Bool) (fields : ℕ) (r : Register) → r.bits ≡ owned fs r.bits → AreChosen fs chosen fields →
    (rstep fs chosen r).bits ≡ learned_by_read fs (bit fields) (ranswer fs chosen r) r.bits
unfolding rstep learned_by_read word_by_field
left_bits fs chosen fields r own are =
    from_bits-same 64 (λ b. left_bit fs chosen (place_at fs b) (bit r.bits b))
    (λ b. option_map_or (λ k. cond (bit fields k) (learned_bit (policy_in fs k) (bit (ranswer fs chosen r) b) (bit r.bits b)) (bit r.bits b)) (place_at fs b) false)
    (λ b l. by b l (place_at fs b) refl)
  where
    by : (b : ℕ) → b < 64 → (o : Option ℕ) → place_at fs b ≡ o →
        left_bit fs chosen o (bit r.bits b) ≡ option_map_or (λ k. cond (bit fields k) (learned_bit (policy_in fs k) (bit (ranswer fs chosen r) b) (bit r.bits b)) (bit r.bits b)) o false
    by b l None at = owned_bit fs r.bits b own l ∙ ap (λ (o : Option ℕ). option_map_or (λ k. bit r.bits b) o false) at
    by b l (Some k) at =
        left_is (chosen k) (policy_in fs k) (bit r.bits b) (bit (ranswer fs chosen r) b) (bit-ranswer fs chosen r b l ∙ ap (λ o. shown_bit fs chosen o (bit r.bits b)) at)
        ∙ ap (λ t. cond t (learned_bit (policy_in fs k) (bit (ranswer fs chosen r) b) (bit r.bits b)) (bit r.bits b)) (are.same k (place_is fs b k at).0)

-- ---- marks

-- the number of a register's field
record IsNumbered (c : ChipData) (reg k : ℕ) : Type 0 where
  within : first_of c reg + k < length c.fields
  own : (field_of c (first_of c reg + k)).shape.reg ≡ reg

numbered : (c : ChipData) (reg k : ℕ) → IsSound c → reg < length c.regs → k < length (fields_of c reg) → IsNumbered c reg k
numbered c reg k sound l place =
    let n = first_of c reg + k in
    let all : length (fields_of c reg) ≡ count_of c reg = length-fields_of c reg sound l in
    record {
      within = number_within c reg k sound l place;
      own = owner_is c reg n sound l (omega arith) (omega (arith, all, place));
    }

pub marks_after : (c : ChipData) (reg fields k : ℕ) (spent : List Bool) (chosen : ℕ → Bool) → IsSound c → reg < length c.regs → length spent ≡ length c.fields → k < length (fields_of c reg) →
    AreChosen (fields_of c reg) chosen fields →
    (marks_in c spent reg k || (chosen k && spends_mark (policy_in (fields_of c reg) k))) ≡ marks_in c (spent_after c reg fields spent) reg k
unfolding spent_after
marks_after c reg fields k spent chosen sound l long place are =
    let n = first_of c reg + k in
    let is = numbered c reg k sound l place in
    let inside : n < length spent = omega (arith, is.within, long) in
    let number : n - first_of c reg ≡ k = omega arith in
    let by : is_spent_by c reg fields n ≡ (chosen k && spends_mark (policy_in (fields_of c reg) k)) =
    ap (λ t. t && (bit fields (n - first_of c reg) && spends_mark (field_of c n).shape.policy)) (eq-eqb (field_of c n).shape.reg reg is.own)
    ∙ ap (λ j. bit fields j && spends_mark (field_of c n).shape.policy) number
    ∙ ap (λ (f : FieldSeen). bit fields k && spends_mark f.shape.policy) (sym (field_in-fields_of c reg k sound l place))
    ∙ ap (λ t. t && spends_mark (policy_in (fields_of c reg) k)) (sym (are.same k place))
    in
    ap (λ t. get_or spent n false || t) (sym by)
    ∙ sym (get_or-map-range_with_len (λ n. get_or spent n false || is_spent_by c reg fields n) 0 (length spent) n n false inside (omega arith))

or_false : (t : Bool) → t ≡ (t || false)
or_false true = refl
or_false false = refl

-- those of other registers stay
pub other_marks : (c : ChipData) (reg q fields k : ℕ) (spent : List Bool) → IsSound c → q < length c.regs → (q ≡ reg → ⊥) → length spent ≡ length c.fields → k < length (fields_of c q) →
    marks_in c spent q k ≡ marks_in c (spent_after c reg fields spent) q k
unfolding spent_after
other_marks c reg q fields k spent sound l other long place =
    let n = first_of c q + k in
    let is = numbered c q k sound l place in
    let inside : n < length spent = omega (arith, is.within, long) in
    let none : is_spent_by c reg fields n ≡ false =
    ap (λ r. eqb r reg && (bit fields (n - first_of c reg) && spends_mark (field_of c n).shape.policy)) is.own
    ∙ ap (λ t. t && (bit fields (n - first_of c reg) && spends_mark (field_of c n).shape.policy)) (ne_eqb q reg other)
    in
    or_false (get_or spent n false)
    ∙ ap (λ t. get_or spent n false || t) (sym none)
    ∙ sym (get_or-map-range_with_len (λ n. get_or spent n false || is_spent_by c reg fields n) 0 (length spent) n n false inside (omega arith))
