-- The mirror after a call.
use Rattle.std.proofs.Common.{◌≡◌, ℕ, ◌+◌, ◌-◌, ◌*◌, ◌<◌, ◌≤◌, ◌^◌, Bool, true, false, cond, eqb, List, length, map, set, get_or, replicate, Option, Some, None, refl, sym, ap, subst, ◌∙◌, inl, inr}
use Rattle.std.proofs.Common.{arith}
use Rattle.std.specs.Prelude.{nat_le, nat_lt, Vec}
use Rattle.std.specs.Vec.{with_items}
use Rattle.std.specs.List.{range_with_len}
use Rattle.std.specs.Option.{option_map_or}
use Rattle.std.proofs.Common.{ne_eqb}
use Rattle.std.proofs.lemmas.Bool.{cases_eq, and_parts, leb-true, ltb-true}
use Rattle.std.proofs.lemmas.List.{with_items_is, length-set, length-replicate, get_or-replicate, get_or-set_same, get_or-set_other, get_or_read_under}
use Rattle.std.proofs.lemmas.List.FromFn.{get_or-map-range_with_len, length-map-range_with_len}
use Rattle.std.proofs.lemmas.Nat.{pow_pos}
use Rattle.rl_policy.specs.Bits.{bit, from_bits, put_bit, is_within}
use Rattle.rl_policy.specs.Table.{after_write}
use Rattle.rl_policy.specs.declared.policy.Policy.{Policy}
use Rattle.rl_policy.proofs.BitLemmas.{bit-from_bits, from_bits-lt, from_bits-same}
use Rattle.rl_model.specs.declared.rows.Field.{Field}
use Rattle.rl_model.specs.Chip.{IsSound}
use Rattle.rl_mirror.proofs.PlaceLemmas.{IsFieldList, is_place, covers_is}
use Rattle.rl_mirror.proofs.FieldLemmas.{seated, field_list, length-fields_of, field_in-fields_of}
use Rattle.rl_mirror.proofs.SpentLemmas.{length-spent_after}
use Rattle.rl_mirror.proofs.WordLemmas.{is_word_by_field, owned_bit, owned_zero, word_is_value, bytes_pow}
use Rattle.rl_model.specs.Rows.{FieldSeen, ChipData}
use Rattle.rl_mirror.specs.declared.effect.Effect.TheVariants.{Updating, Neutral}
use Rattle.rl_mirror.specs.Effect.{effect_bit}
use Rattle.rl_model.specs.Fields.{field_of, first_of, count_of, size_of, fields_of, field_in, policy_in, place_at}
use Rattle.rl_mirror.specs.Fields.{word_by_field, owned}
use Rattle.rl_mirror.specs.Mirror.{MirrorData, mirrored_of, desired_of, is_spent, marks_in, IsValueOf, IsMirrorOf}
use Rattle.rl_mirror.specs.Prediction.{predict_write, predict_read, predict_raw, learned_by_write, learned_by_read, spent_after, after_reset, reset, blank, set as set_field, update_word}
use Rattle.rl_mirror.specs.Prediction.{update_word_of, neutral_word, neutral_around}

-- what the code reads of a register, before the mirror as a whole is known to be the one that it stands for
pub record IsReadOf (c : ChipData) (reg first second : ℕ) (m : MirrorData) : Type 0 where
  pub mirrored : first ≡ mirrored_of m reg
  pub desired : second ≡ desired_of m reg
  pub known : first ≡ owned (fields_of c reg) first
  pub wish : second ≡ owned (fields_of c reg) second

pub read_of : (c : ChipData) (reg mirrored desired : ℕ) (m known : MirrorData) → m ≡ known → IsMirrorOf c known → reg < length c.regs
    → mirrored ≡ get_or m.mirrored reg mirrored → desired ≡ get_or m.desired reg desired → IsReadOf c reg mirrored desired m
read_of c reg mirrored desired m known is built l e f =
    let own : IsMirrorOf c m = subst (λ (m : MirrorData). IsMirrorOf c m) (sym is) built in
    let first : mirrored ≡ mirrored_of m reg = get_or_read_under m.mirrored reg (length m.mirrored) mirrored 0 e (omega (arith, own.registers)) refl in
    let second : desired ≡ desired_of m reg = get_or_read_under m.desired reg (length m.desired) desired 0 f (omega (arith, own.wishes)) refl in
    record {
      mirrored = first;
      desired = second;
      known = subst (λ (v : ℕ). v ≡ owned (fields_of c reg) v) (sym first) (own.mirrored reg l).owned;
      wish = subst (λ (v : ℕ). v ≡ owned (fields_of c reg) v) (sym second) (own.desired reg l).owned;
    }

pub write_is : (c : ChipData) (reg value fields : ℕ) (m : MirrorData) (mirrored desired known wish : ℕ) (first second marks : List Bool)
    → mirrored ≡ mirrored_of m reg → desired ≡ desired_of m reg → first ≡ m.spent → second ≡ m.spent
    → known ≡ learned_by_write (fields_of c reg) (bit fields) (marks_in c first reg) mirrored value mirrored
    → wish ≡ learned_by_write (fields_of c reg) (bit fields) (marks_in c first reg) mirrored value desired
    → marks ≡ spent_after c reg fields second
    → record { mirrored = set m.mirrored reg known; desired = set m.desired reg wish; spent = marks } ≡ predict_write c reg value fields m
unfolding predict_write
write_is c reg value fields m mirrored desired known wish first second marks is_mirrored is_desired e f p q r =
    rw (p, q, r, e, f, is_mirrored, is_desired) refl

pub read_is : (c : ChipData) (reg read fields : ℕ) (m : MirrorData) (mirrored desired known wish : ℕ)
    → mirrored ≡ mirrored_of m reg → desired ≡ desired_of m reg
    → known ≡ learned_by_read (fields_of c reg) (bit fields) read mirrored
    → wish ≡ learned_by_read (fields_of c reg) (bit fields) read desired
    → record { mirrored = set m.mirrored reg known; desired = set m.desired reg wish; spent = m.spent } ≡ predict_read c reg read fields m
unfolding predict_read
read_is c reg read fields m mirrored desired known wish is_mirrored is_desired p q =
    rw (p, q, is_mirrored, is_desired) refl

-- one value of a register more
value_set : (c : ChipData) (xs : List ℕ) (reg a : ℕ) → length xs ≡ length c.regs → reg < length c.regs → IsValueOf c reg a
    → ((r : ℕ) → r < length c.regs → IsValueOf c r (get_or xs r 0)) → (r : ℕ) → r < length c.regs → IsValueOf c r (get_or (set xs reg a) r 0)
value_set c xs reg a long l value before r lr =
    elim (cases_eq r reg) [
      | inl same ↦
          let at : get_or (set xs reg a) r 0 ≡ a = rw same (get_or-set_same xs reg a 0 (omega (arith, long, l))) in
          subst (λ (v : ℕ). IsValueOf c r v) (sym at) (subst (λ (n : ℕ). IsValueOf c n a) (sym same) value)
      | inr other ↦ subst (λ (v : ℕ). IsValueOf c r v) (sym (get_or-set_other xs reg r a 0 other)) (before r lr)
    ]

pub write_built : (c : ChipData) (reg word fields : ℕ) (m : MirrorData) → IsSound c → reg < length c.regs → IsMirrorOf c m → IsMirrorOf c (predict_write c reg word fields m)
unfolding predict_write learned_by_write
write_built c reg word fields m sound l built = record {
  registers = length-set m.mirrored reg _ ∙ built.registers;
  wishes = length-set m.desired reg _ ∙ built.wishes;
  marks = length-spent_after c reg fields m.spent ∙ built.marks;
  mirrored = value_set c m.mirrored reg _ built.registers l (word_is_value c reg _ sound l) built.mirrored;
  desired = value_set c m.desired reg _ built.wishes l (word_is_value c reg _ sound l) built.desired;
}

pub read_built : (c : ChipData) (reg read fields : ℕ) (m : MirrorData) → IsSound c → reg < length c.regs → IsMirrorOf c m → IsMirrorOf c (predict_read c reg read fields m)
unfolding predict_read learned_by_read
read_built c reg read fields m sound l built = record {
  registers = length-set m.mirrored reg _ ∙ built.registers;
  wishes = length-set m.desired reg _ ∙ built.wishes;
  marks = built.marks;
  mirrored = value_set c m.mirrored reg _ built.registers l (word_is_value c reg _ sound l) built.mirrored;
  desired = value_set c m.desired reg _ built.wishes l (word_is_value c reg _ sound l) built.desired;
}

pub raw_is : (c : ChipData) (reg value : ℕ) (m : MirrorData) (bits : ℕ) → bits ≡ owned (fields_of c reg) value
    → record { mirrored = set m.mirrored reg bits; desired = set m.desired reg bits; spent = m.spent } ≡ predict_raw c reg value m
unfolding predict_raw
raw_is c reg value m bits e = rw e refl

-- ---- resets

abbrev pub values_after : ChipData → (kind : ℕ) → List ℕ → List ℕ
values_after c kind values = map (λ reg. after_reset (fields_of c reg) kind (get_or values reg 0)) (range_with_len 0 (length values))

pub hard_is : (c : ChipData) (kind : ℕ) (m : MirrorData) (mirrored desired : List ℕ) (spent : List Bool) → kind ≡ 0
    → mirrored ≡ values_after c kind m.mirrored → desired ≡ values_after c kind m.desired → spent ≡ replicate (length m.spent) false
    → record { mirrored = mirrored; desired = desired; spent = spent } ≡ reset c kind m
unfolding reset
hard_is c kind m mirrored desired spent hard e f g = rw (e, f, g, hard) refl

pub soft_is : (c : ChipData) (kind : ℕ) (m : MirrorData) (mirrored desired : List ℕ) → (kind ≡ 0 → ⊥)
    → mirrored ≡ values_after c kind m.mirrored → desired ≡ values_after c kind m.desired
    → record { mirrored = mirrored; desired = desired; spent = m.spent } ≡ reset c kind m
unfolding reset
soft_is c kind m mirrored desired soft e f = let none : eqb kind 0 ≡ false = ne_eqb kind 0 soft in rw (e, f, none) refl

reset_is_value : (c : ChipData) (kind reg kept : ℕ) → IsSound c → reg < length c.regs → IsValueOf c reg (after_reset (fields_of c reg) kind kept)
unfolding after_reset
reset_is_value c kind reg kept sound l = word_is_value c reg _ sound l

values_are : (c : ChipData) (kind : ℕ) (values : List ℕ) → IsSound c → length values ≡ length c.regs → (reg : ℕ) → reg < length c.regs → IsValueOf c reg (get_or (values_after c kind values) reg 0)
values_are c kind values sound long reg l =
    let at : get_or (values_after c kind values) reg 0 ≡ after_reset (fields_of c reg) kind (get_or values reg 0) =
    get_or-map-range_with_len (λ reg. after_reset (fields_of c reg) kind (get_or values reg 0)) 0 (length values) reg reg 0 (omega arith) (omega arith) in
    subst (λ (v : ℕ). IsValueOf c reg v) (sym at) (reset_is_value c kind reg (get_or values reg 0) sound l)

pub length-values_after : (c : ChipData) (kind : ℕ) (values : List ℕ) → length (values_after c kind values) ≡ length values
length-values_after c kind values = length-map-range_with_len (λ reg. after_reset (fields_of c reg) kind (get_or values reg 0)) 0 (length values)

length-cleared : (b : Bool) (xs : List Bool) → length (cond b (replicate (length xs) false) xs) ≡ length xs
length-cleared true xs = length-replicate (length xs) false
length-cleared false xs = refl

pub reset_built : (c : ChipData) (kind : ℕ) (m : MirrorData) → IsSound c → IsMirrorOf c m → IsMirrorOf c (reset c kind m)
unfolding reset
reset_built c kind m sound built = record {
  registers = length-values_after c kind m.mirrored ∙ built.registers;
  wishes = length-values_after c kind m.desired ∙ built.wishes;
  marks = length-cleared (eqb kind 0) m.spent ∙ built.marks;
  mirrored = values_are c kind m.mirrored sound built.registers;
  desired = values_are c kind m.desired sound built.wishes;
}

pub built_after : (c : ChipData) (kind : ℕ) (m n : MirrorData) → n ≡ reset c kind m → IsSound c → IsMirrorOf c m → IsMirrorOf c n
built_after c kind m n is sound built = subst (λ (x : MirrorData). IsMirrorOf c x) (sym is) (reset_built c kind m sound built)

zero_is_value : (c : ChipData) (reg : ℕ) → IsValueOf c reg 0
zero_is_value c reg = record { fits = some_power (size_of c reg); owned = owned_zero (fields_of c reg) }
  where
    some_power : (n : ℕ) → 0 < 256 ^ n
    some_power n = subst (λ (m : ℕ). 0 < m) (bytes_pow n) (pow_pos (8 * n))

pub blank_built : (c : ChipData) → IsMirrorOf c (blank c)
blank_built c = record {
  registers = length-replicate (length c.regs) 0;
  wishes = length-replicate (length c.regs) 0;
  marks = length-replicate (length c.fields) false;
  mirrored = λ reg l. subst (λ (v : ℕ). IsValueOf c reg v) (sym (get_or-replicate (length c.regs) reg 0 0 l)) (zero_is_value c reg);
  desired = λ reg l. subst (λ (v : ℕ). IsValueOf c reg v) (sym (get_or-replicate (length c.regs) reg 0 0 l)) (zero_is_value c reg);
}

-- what a vector holds once a slice of it was changed
pub refilled : {Z : Type 0} (v : Vec ℕ Z) (c : ChipData) (kind : ℕ) (xs ws : List ℕ) → xs ≡ v.items → ws ≡ values_after c kind xs → (with_items v ws).items ≡ values_after c kind v.items
refilled v c kind xs ws same e =
    let long : length ws ≡ v.len = omega (arith, ap (λ (l : List ℕ). length l) e, length-values_after c kind xs, ap (λ (l : List ℕ). length l) same, v.ok.0) in
    with_items_is v ws long ∙ e ∙ ap (values_after c kind) same

pub cleared : {Z : Type 0} (v : Vec Bool Z) (xs ws : List Bool) → xs ≡ v.items → ws ≡ replicate (length xs) false → (with_items v ws).items ≡ replicate (length v.items) false
cleared v xs ws same e =
    let long : length ws ≡ v.len = omega (arith, ap (λ (l : List Bool). length l) e, length-replicate (length xs) false, ap (λ (l : List Bool). length l) same, v.ok.0) in
    with_items_is v ws long ∙ e ∙ ap (λ (l : List Bool). replicate (length l) false) same

-- ---- words to send

pub update_is : (c : ChipData) (reg : ℕ) (m : MirrorData) (desired mirrored word : ℕ) (spent : List Bool) → desired ≡ desired_of m reg → mirrored ≡ mirrored_of m reg
    → word ≡ word_by_field (fields_of c reg) (λ k b. effect_bit (Updating desired mirrored) (policy_in (fields_of c reg) k) (marks_in c spent reg k) b)
    → word ≡ update_word_of c reg m
unfolding update_word_of update_word
update_is c reg m desired mirrored word spent is_desired is_mirrored e = e ∙ rw (is_desired, is_mirrored) refl

-- ---- one field of a register

-- a field that was put into a word of its register
pub put_is_word : (bits : ℕ) (fs : List FieldSeen) (at : ℕ) (wish : ℕ → Bool) (word : ℕ) → IsFieldList bits fs → at < length fs → word ≡ owned fs word
    → from_bits 64 (put_bit (field_in fs at).shape.lsb (field_in fs at).shape.width wish (bit word))
    ≡ word_by_field fs (λ k b. cond (eqb k at) (wish (b - (field_in fs at).shape.lsb)) (bit word b))
put_is_word bits fs at wish word list l held =
    is_word_by_field fs (λ k b. cond (eqb k at) (wish (b - f.lsb)) (bit word b)) (from_bits 64 (put_bit f.lsb f.width wish (bit word))) (from_bits-lt 64 (put_bit f.lsb f.width wish (bit word)))
    (λ b lb. bit-from_bits 64 (put_bit f.lsb f.width wish (bit word)) b lb ∙ ap (λ t. cond t (wish (b - f.lsb)) (bit word b)) (covers_is bits fs at b list l)
    ∙ by b (place_at fs b) (owned_bit fs word b held lb))
  where
    f : Field
    f = (field_in fs at).shape

    by : (b : ℕ) (o : Option ℕ) → bit word b ≡ option_map_or (λ k. bit word b) o false
        → cond (is_place o at) (wish (b - f.lsb)) (bit word b) ≡ option_map_or (λ k. cond (eqb k at) (wish (b - f.lsb)) (bit word b)) o false
    by b None e = e
    by b (Some k) e = refl

-- the place of a field in its register
pub record IsAt (c : ChipData) (n at : ℕ) : Type 0 where
  pub place : at < length (fields_of c (field_of c n).shape.reg)
  pub field : field_in (fields_of c (field_of c n).shape.reg) at ≡ field_of c n
  pub number : first_of c (field_of c n).shape.reg + at ≡ n

pub place_of : (c : ChipData) (n : ℕ) → IsSound c → n < length c.fields → IsAt c n (n - first_of c (field_of c n).shape.reg)
place_of c n sound l =
    let s = seated c n sound l in
    let reg = (field_of c n).shape.reg in
    let long : length (fields_of c reg) ≡ count_of c reg = length-fields_of c reg sound s.reg in
    let within : n - first_of c reg < length (fields_of c reg) = omega (arith, s.first, s.last, long) in
    let number : first_of c reg + (n - first_of c reg) ≡ n = omega (arith, s.first) in
    record {
      place = within;
      field = field_in-fields_of c reg (n - first_of c reg) sound s.reg within ∙ ap (field_of c) number;
      number = number;
    }

-- a word of a register into which a field was put is one of the register
pub put_is_value : (c : ChipData) (n : ℕ) (wish : ℕ → Bool) (word : ℕ) → IsSound c → n < length c.fields → IsValueOf c (field_of c n).shape.reg word
    → IsValueOf c (field_of c n).shape.reg (from_bits 64 (put_bit (field_of c n).shape.lsb (field_of c n).shape.width wish (bit word)))
put_is_value c n wish word sound l held =
    let reg = (field_of c n).shape.reg in
    let s = seated c n sound l in
    let at = n - first_of c reg in
    let p = place_of c n sound l in
    let list = field_list c reg sound s.reg in
    let f = (field_in (fields_of c reg) at).shape in
    let e : from_bits 64 (put_bit f.lsb f.width wish (bit word)) ≡ word_by_field (fields_of c reg) (λ k b. cond (eqb k at) (wish (b - f.lsb)) (bit word b)) =
    put_is_word (8 * size_of c reg) (fields_of c reg) at wish word list p.place held.owned in
    let same : from_bits 64 (put_bit f.lsb f.width wish (bit word)) ≡ from_bits 64 (put_bit (field_of c n).shape.lsb (field_of c n).shape.width wish (bit word)) =
    ap (λ (g : FieldSeen). from_bits 64 (put_bit g.shape.lsb g.shape.width wish (bit word))) p.field in
    subst (λ (v : ℕ). IsValueOf c reg v) (sym e ∙ same) (word_is_value c reg (λ k b. cond (eqb k at) (wish (b - f.lsb)) (bit word b)) sound s.reg)

-- a field is read and put back changed
pub changed_word : (p : Policy) (lsb width desired v wish new : ℕ) (mark : Bool) → lsb + width ≤ 64
    → wish ≡ from_bits width (λ i. after_write p (bit (from_bits width (λ i. bit desired (lsb + i))) i) (bit v i) mark)
    → new ≡ from_bits 64 (put_bit lsb width (bit wish) (bit desired))
    → new ≡ from_bits 64 (put_bit lsb width (λ b. after_write p (bit desired (lsb + b)) (bit v b) mark) (bit desired))
changed_word p lsb width desired v wish new mark inside e f =
    f ∙ from_bits-same 64 (put_bit lsb width (bit wish) (bit desired)) (put_bit lsb width (λ b. after_write p (bit desired (lsb + b)) (bit v b) mark) (bit desired))
    (λ b l. by b (is_within lsb width b) refl)
  where
    bits : (i : ℕ) → i < width → bit wish i ≡ after_write p (bit desired (lsb + i)) (bit v i) mark
    bits i l =
        ap (λ n. bit n i) e ∙ bit-from_bits width (λ i. after_write p (bit (from_bits width (λ i. bit desired (lsb + i))) i) (bit v i) mark) i l
        ∙ ap (λ t. after_write p t (bit v i) mark) (bit-from_bits width (λ i. bit desired (lsb + i)) i l)

    by : (b : ℕ) (t : Bool) → is_within lsb width b ≡ t → cond t (bit wish (b - lsb)) (bit desired b) ≡ cond t (after_write p (bit desired (lsb + (b - lsb))) (bit v (b - lsb)) mark) (bit desired b)
    by b true at =
        let (from, to) = and_parts (nat_le lsb b) (nat_lt b (lsb + width)) at in
        let low : lsb ≤ b = leb-true lsb b from in
        let high : b < lsb + width = ltb-true b (lsb + width) to in
        bits (b - lsb) (omega arith)
    by b false at = refl

pub set_is : (c : ChipData) (n v : ℕ) (m : MirrorData) (new : ℕ) → new ≡ from_bits 64 (put_bit (field_of c n).shape.lsb (field_of c n).shape.width
    (λ b. after_write (field_of c n).shape.policy (bit (desired_of m (field_of c n).shape.reg) ((field_of c n).shape.lsb + b)) (bit v b) (is_spent m n)) (bit (desired_of m (field_of c n).shape.reg)))
    → record { mirrored = m.mirrored; desired = set m.desired (field_of c n).shape.reg new; spent = m.spent } ≡ set_field c n v m
unfolding set_field
set_is c n v m new e = rw e refl

pub set_built : (c : ChipData) (n v : ℕ) (m : MirrorData) → IsSound c → n < length c.fields → IsMirrorOf c m → IsMirrorOf c (set_field c n v m)
unfolding set_field
set_built c n v m sound l built = record {
  registers = built.registers;
  wishes = length-set m.desired (field_of c n).shape.reg _ ∙ built.wishes;
  marks = built.marks;
  mirrored = built.mirrored;
  desired = λ reg lr.
      elim (cases_eq reg (field_of c n).shape.reg) [
        | inl same ↦
            let s = seated c n sound l in
            let at : get_or (set m.desired (field_of c n).shape.reg new) reg 0 ≡ new = rw same (get_or-set_same m.desired (field_of c n).shape.reg new 0 (omega (arith, built.wishes, s.reg))) in
            subst (λ (v : ℕ). IsValueOf c reg v) (sym at) (subst (λ (r : ℕ). IsValueOf c r new) (sym same) value)
        | inr other ↦ subst (λ (v : ℕ). IsValueOf c reg v) (sym (get_or-set_other m.desired (field_of c n).shape.reg reg new 0 other)) (built.desired reg lr)
      ];
}
  where
    wish : ℕ → Bool
    wish b = after_write (field_of c n).shape.policy (bit (desired_of m (field_of c n).shape.reg) ((field_of c n).shape.lsb + b)) (bit v b) (is_spent m n)

    new : ℕ
    new = from_bits 64 (put_bit (field_of c n).shape.lsb (field_of c n).shape.width wish (bit (desired_of m (field_of c n).shape.reg)))

    value : IsValueOf c (field_of c n).shape.reg new
    value = put_is_value c n wish (desired_of m (field_of c n).shape.reg) sound l (built.desired (field_of c n).shape.reg (seated c n sound l).reg)

pub around_is : (c : ChipData) (n v : ℕ) (m : MirrorData) (mirrored word result : ℕ) (spent : List Bool) → mirrored ≡ mirrored_of m (field_of c n).shape.reg
    → word ≡ word_by_field (fields_of c (field_of c n).shape.reg) (λ k b. effect_bit (Neutral mirrored) (policy_in (fields_of c (field_of c n).shape.reg) k) (marks_in c spent (field_of c n).shape.reg
    k) b)
    → result ≡ from_bits 64 (put_bit (field_of c n).shape.lsb (field_of c n).shape.width (bit v) (bit word))
    → result ≡ neutral_around c n v m
unfolding neutral_around neutral_word
around_is c n v m mirrored word result spent is_mirrored e f = f ∙ rw (e, is_mirrored) refl

pub blank_is : (c : ChipData) (mirrored desired : List ℕ) (spent : List Bool) → mirrored ≡ replicate (length c.regs) 0 → desired ≡ replicate (length c.regs) 0 →
    spent ≡ replicate (length c.fields) false
    → record { mirrored = mirrored; desired = desired; spent = spent } ≡ blank c
blank_is c mirrored desired spent e f g = rw (e, f, g) refl

-- the same where the code has read the field
pub around_by : (c : ChipData) (n v : ℕ) (m : MirrorData) (f : Field) (mirrored word result : ℕ) (spent : List Bool) → f ≡ (field_of c n).shape → mirrored ≡ mirrored_of m f.reg
    → word ≡ word_by_field (fields_of c f.reg) (λ k b. effect_bit (Neutral mirrored) (policy_in (fields_of c f.reg) k) (marks_in c spent f.reg k) b)
    → result ≡ from_bits 64 (put_bit f.lsb f.width (bit v) (bit word))
    → result ≡ neutral_around c n v m
around_by c n v m f mirrored word result spent is a b d =
    around_is c n v m mirrored word result spent
    (subst (λ (g : Field). mirrored ≡ mirrored_of m g.reg) is a)
    (subst (λ (g : Field). word ≡ word_by_field (fields_of c g.reg) (λ k b. effect_bit (Neutral mirrored) (policy_in (fields_of c g.reg) k) (marks_in c spent g.reg k) b)) is b)
    (subst (λ (g : Field). result ≡ from_bits 64 (put_bit g.lsb g.width (bit v) (bit word))) is d)

pub around_fits : (c : ChipData) (n v word result : ℕ) (f : Field) → IsSound c → n < length c.fields → f ≡ (field_of c n).shape → IsValueOf c f.reg word
    → result ≡ from_bits 64 (put_bit f.lsb f.width (bit v) (bit word)) → result < 256 ^ size_of c (field_of c n).shape.reg
around_fits c n v word result f sound l is held e =
    let at : result ≡ from_bits 64 (put_bit (field_of c n).shape.lsb (field_of c n).shape.width (bit v) (bit word)) =
    subst (λ (g : Field). result ≡ from_bits 64 (put_bit g.lsb g.width (bit v) (bit word))) is e in
    rw at (put_is_value c n (bit v) word sound l (subst (λ (g : Field). IsValueOf c g.reg word) is held)).fits

pub set_by : (c : ChipData) (n v : ℕ) (m x : MirrorData) (f : Field) (desired part wish new : ℕ) (mark : Bool) → x ≡ m → f ≡ (field_of c n).shape → f.lsb + f.width ≤ 64
    → desired ≡ desired_of m f.reg → mark ≡ is_spent m n
    → part ≡ from_bits f.width (λ i. bit desired (f.lsb + i))
    → wish ≡ from_bits f.width (λ i. after_write f.policy (bit part i) (bit v i) mark)
    → new ≡ from_bits 64 (put_bit f.lsb f.width (bit wish) (bit desired))
    → record { mirrored = x.mirrored; desired = set x.desired f.reg new; spent = x.spent } ≡ set_field c n v m
set_by c n v m x f desired part wish new mark same is inside is_desired is_mark e g h =
    ap (λ (x : MirrorData). record { mirrored = x.mirrored; desired = set x.desired f.reg new; spent = x.spent }) same
    ∙ ap (λ (r : ℕ). record { mirrored = m.mirrored; desired = set m.desired r new; spent = m.spent }) (ap (λ (f : Field). f.reg) is)
    ∙ set_is c n v m new
    (subst (λ (g : Field). new ≡ from_bits 64 (put_bit g.lsb g.width (λ b. after_write g.policy (bit (desired_of m g.reg) (g.lsb + b)) (bit v b) (is_spent m n)) (bit (desired_of m g.reg)))) is
    (rw (← is_desired, ← is_mark) (changed_word f.policy f.lsb f.width desired v wish new mark inside (rw e at g) h)))
