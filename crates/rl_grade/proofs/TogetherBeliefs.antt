-- What two models believe of one register: the same prediction keeps it alike, and one of another register leaves it.
use Rattle.std.proofs.Common.{◌≡◌, ◌⊎◌, inl, inr, ℕ, ◌+◌, ◌-◌, ◌<◌, ◌≤◌, Bool, true, false, not, ◌&&◌, ◌||◌, ◌==◌, if◌then◌else◌, List, length, map, replicate, refl, sym, ap, subst, ◌∙◌, arith}
use Rattle.std.specs.Prelude.{get_or, slice_set}
use Rattle.std.specs.List.{range_with_len}
use Rattle.std.specs.Option.{option_map_or}
use Rattle.std.proofs.Common.{take, drop, Option}
use Rattle.std.proofs.lemmas.Bool.{cases_lt, ne_eqb}
use Rattle.std.proofs.lemmas.List.{get_or-set_other, get_or-set_same, get_or_past, length-replicate, length-set}
use Rattle.std.proofs.lemmas.List.FromFn.{get_or-map-range_with_len, length-map-range_with_len}
use Rattle.std.proofs.lemmas.Option.{slice_get_past}
use Rattle.rl_policy.specs.Bits.{bit, from_bits, put_bit}
use Rattle.rl_policy.specs.Table.{after_write, spends_mark}
use Rattle.rl_model.specs.declared.rows.RegRow.{RegRow}
use Rattle.rl_model.specs.Chip.{IsSound}
use Rattle.rl_model.specs.Fields.{count_of, field_of, fields_of, first_of, policy_in}
use Rattle.rl_model.specs.Rows.{ChipData, FieldSeen}
use Rattle.rl_mirror.proofs.FieldLemmas.{length-fields_of, owner_is}
use Rattle.rl_mirror.proofs.WordLemmas.{word_by_field-same}
use Rattle.rl_mirror.specs.Compared.{differ, differing}
use Rattle.rl_mirror.specs.Mirror.{MirrorData, desired_of, is_spent, marks_in, mirrored_of}
use Rattle.rl_mirror.specs.Prediction.{after_reset, is_spent_by, learned_by_read, learned_by_write, needs_update, neutral_around, neutral_word, predict_raw, predict_read, predict_write}
use Rattle.rl_mirror.specs.Prediction.{reset, set as set_field, spent_after, update_word, update_word_of, written}
use Rattle.rl_access.specs.Operation.{reg_of}

-- the same is believed of the register
pub record SameBelief (c : ChipData) (r : ℕ) (m n : MirrorData) : Type 0 where
  pub mirrored : mirrored_of n r ≡ mirrored_of m r
  pub desired : desired_of n r ≡ desired_of m r
  pub spent : (k : ℕ) → reg_of c k ≡ r → is_spent n k ≡ is_spent m k

-- it has the chip's registers and fields
pub record HasSize (c : ChipData) (m : MirrorData) : Type 0 where
  pub mirrored : length m.mirrored ≡ length c.regs
  pub desired : length m.desired ≡ length c.regs
  pub spent : length m.spent ≡ length c.fields

pub same_belief : (c : ChipData) (r : ℕ) (m : MirrorData) → SameBelief c r m m
same_belief c r m = record { mirrored = refl; desired = refl; spent = λ k at. refl }

pub belief_back : (c : ChipData) (r : ℕ) (m n : MirrorData) → SameBelief c r m n → SameBelief c r n m
belief_back c r m n h = record { mirrored = sym h.mirrored; desired = sym h.desired; spent = λ k at. sym (h.spent k at) }

pub belief_on : (c : ChipData) (r : ℕ) (m n o : MirrorData) → SameBelief c r m n → SameBelief c r n o → SameBelief c r m o
belief_on c r m n o h k = record {
  mirrored = k.mirrored ∙ h.mirrored;
  desired = k.desired ∙ h.desired;
  spent = λ n at. k.spent n at ∙ h.spent n at;
}

-- ---- lists

pub set_both : (xs ys : List ℕ) (r v w : ℕ) → length ys ≡ length xs → w ≡ v → get_or (slice_set ys r w) r 0 ≡ get_or (slice_set xs r v) r 0
set_both xs ys r v w size same = by (cases_lt r (length xs))
  where
    by : (r < length xs) ⊎ (length xs ≤ r) → get_or (slice_set ys r w) r 0 ≡ get_or (slice_set xs r v) r 0
    by (inl low) = get_or-set_same ys r w 0 (subst (λ k. r < k) (sym size) low) ∙ same ∙ sym (get_or-set_same xs r v 0 low)
    by (inr past) =
        get_or_past (slice_set ys r w) r 0 (subst (λ k. k ≤ r) (sym (length-set ys r w ∙ size)) past)
        ∙ sym (get_or_past (slice_set xs r v) r 0 (subst (λ k. k ≤ r) (sym (length-set xs r v)) past))

pub map_both : {A : Type 0} (f g : ℕ → A) (m n r : ℕ) (d : A) → n ≡ m → (r < m → g r ≡ f r)
    → get_or (map g (range_with_len 0 n)) r d ≡ get_or (map f (range_with_len 0 m)) r d
map_both {A} f g m n r d size same = by (cases_lt r m)
  where
    by : (r < m) ⊎ (m ≤ r) → get_or (map g (range_with_len 0 n)) r d ≡ get_or (map f (range_with_len 0 m)) r d
    by (inl low) =
        get_or-map-range_with_len g 0 n r r d (subst (λ k. r < k) (sym size) low) (omega arith) ∙ same low
        ∙ sym (get_or-map-range_with_len f 0 m r r d low (omega arith))
    by (inr past) =
        get_or_past (map g (range_with_len 0 n)) r d (subst (λ k. k ≤ r) (sym (length-map-range_with_len g 0 n ∙ size)) past)
        ∙ sym (get_or_past (map f (range_with_len 0 m)) r d (subst (λ k. k ≤ r) (sym (length-map-range_with_len f 0 m)) past))

-- ---- the fields of a register

no_fields : (c : ChipData) (r : ℕ) → length c.regs ≤ r → length (fields_of c r) ≡ 0
unfolding fields_of
no_fields c r past =
    ap (λ (o : Option RegRow). length (take (option_map_or (λ r. r.count) o 0) (drop (first_of c r) c.fields))) (slice_get_past c.regs r past)

own_of : (c : ChipData) (r k : ℕ) → IsSound c → k < length (fields_of c r) → reg_of c (first_of c r + k) ≡ r
own_of c r k sound low = by (cases_lt r (length c.regs))
  where
    by : (r < length c.regs) ⊎ (length c.regs ≤ r) → reg_of c (first_of c r + k) ≡ r
    by (inl inside) =
        let long : length (fields_of c r) ≡ count_of c r = length-fields_of c r sound inside in
        owner_is c r (first_of c r + k) sound inside (omega arith) (omega (arith, long, low))
    by (inr past) = let none = no_fields c r past in absurd (omega (arith, none, low))

marks_same : (c : ChipData) (r : ℕ) (m n : MirrorData) → IsSound c → SameBelief c r m n → (k : ℕ) → k < length (fields_of c r)
    → marks_in c n.spent r k ≡ marks_in c m.spent r k
marks_same c r m n sound h k low = h.spent (first_of c r + k) (own_of c r k sound low)

-- ---- the marks after a write

spent_same : (c : ChipData) (q fields k : ℕ) (xs ys : List Bool) → length ys ≡ length xs → get_or ys k false ≡ get_or xs k false
    → get_or (spent_after c q fields ys) k false ≡ get_or (spent_after c q fields xs) k false
unfolding spent_after
spent_same c q fields k xs ys size same =
    map_both (λ n. get_or xs n false || is_spent_by c q fields n) (λ n. get_or ys n false || is_spent_by c q fields n) (length xs) (length ys) k false size
    (λ low. ap (λ b. b || is_spent_by c q fields k) same)

or_nothing : (b : Bool) → (b || false) ≡ b
or_nothing true = refl
or_nothing false = refl

spent_other : (c : ChipData) (q fields k : ℕ) (xs : List Bool) → (reg_of c k ≡ q → ⊥) → get_or (spent_after c q fields xs) k false ≡ get_or xs k false
unfolding spent_after
spent_other c q fields k xs other = by (cases_lt k (length xs))
  where
    by : (k < length xs) ⊎ (length xs ≤ k) → get_or (map (λ n. get_or xs n false || is_spent_by c q fields n) (range_with_len 0 (length xs))) k false ≡ get_or xs k false
    by (inl low) =
        get_or-map-range_with_len (λ n. get_or xs n false || is_spent_by c q fields n) 0 (length xs) k k false low (omega arith)
        ∙ ap (λ b. get_or xs k false || (b && (bit fields (k - first_of c q) && spends_mark (field_of c k).shape.policy))) (ne_eqb (reg_of c k) q other)
        ∙ or_nothing (get_or xs k false)
    by (inr past) =
        get_or_past (map (λ n. get_or xs n false || is_spent_by c q fields n) (range_with_len 0 (length xs))) k false
        (subst (λ n. n ≤ k) (sym (length-map-range_with_len (λ n. get_or xs n false || is_spent_by c q fields n) 0 (length xs))) past)
        ∙ sym (get_or_past xs k false past)

-- ---- predictions of writes

learned_same : (fs : List FieldSeen) (chosen p q : ℕ → Bool) (x y word kept left : ℕ) → ((k : ℕ) → k < length fs → q k ≡ p k) → y ≡ x → left ≡ kept
    → learned_by_write fs chosen q y word left ≡ learned_by_write fs chosen p x word kept
unfolding learned_by_write
learned_same fs chosen p q x y word kept left marks same_x same_kept =
    word_by_field-same fs (λ k b. if chosen k then after_write (policy_in fs k) (bit y b) (bit word b) (q k) else bit left b)
    (λ k b. if chosen k then after_write (policy_in fs k) (bit x b) (bit word b) (p k) else bit kept b)
    (λ k b inside low covers.
    ap (λ t. if chosen k then after_write (policy_in fs k) (bit y b) (bit word b) t else bit left b) (marks k inside)
    ∙ ap (λ z. if chosen k then after_write (policy_in fs k) (bit z b) (bit word b) (p k) else bit left b) same_x
    ∙ ap (λ z. if chosen k then after_write (policy_in fs k) (bit x b) (bit word b) (p k) else bit z b) same_kept)

pub write_same : (c : ChipData) (r word fields : ℕ) (m n : MirrorData) → IsSound c → HasSize c m → HasSize c n → SameBelief c r m n
    → SameBelief c r (predict_write c r word fields m) (predict_write c r word fields n)
unfolding predict_write
write_same c r word fields m n sound sm sn h =
    let marks = marks_same c r m n sound h in
    record {
      mirrored = set_both m.mirrored n.mirrored r _ _ (sn.mirrored ∙ sym sm.mirrored)
          (learned_same (fields_of c r) (bit fields) (marks_in c m.spent r) (marks_in c n.spent r) (mirrored_of m r) (mirrored_of n r) word (mirrored_of m r) (mirrored_of n r)
          marks h.mirrored h.mirrored);
      desired = set_both m.desired n.desired r _ _ (sn.desired ∙ sym sm.desired)
          (learned_same (fields_of c r) (bit fields) (marks_in c m.spent r) (marks_in c n.spent r) (mirrored_of m r) (mirrored_of n r) word (desired_of m r) (desired_of n r)
          marks h.mirrored h.desired);
      spent = λ k at. spent_same c r fields k m.spent n.spent (sn.spent ∙ sym sm.spent) (h.spent k at);
    }

pub write_other : (c : ChipData) (q word fields r : ℕ) (m : MirrorData) → (r ≡ q → ⊥) → SameBelief c r m (predict_write c q word fields m)
unfolding predict_write
write_other c q word fields r m other = record {
  mirrored = get_or-set_other m.mirrored q r _ 0 other;
  desired = get_or-set_other m.desired q r _ 0 other;
  spent = λ k at. spent_other c q fields k m.spent (λ is. other (sym at ∙ is));
}

pub write_size : (c : ChipData) (q word fields : ℕ) (m : MirrorData) → HasSize c m → HasSize c (predict_write c q word fields m)
unfolding predict_write spent_after
write_size c q word fields m s = record {
  mirrored = length-set m.mirrored q _ ∙ s.mirrored;
  desired = length-set m.desired q _ ∙ s.desired;
  spent = length-map-range_with_len (λ n. get_or m.spent n false || is_spent_by c q fields n) 0 (length m.spent) ∙ s.spent;
}

-- ---- of reads and of bits

pub read_same : (c : ChipData) (r read fields : ℕ) (m n : MirrorData) → HasSize c m → HasSize c n → SameBelief c r m n
    → SameBelief c r (predict_read c r read fields m) (predict_read c r read fields n)
unfolding predict_read
read_same c r read fields m n sm sn h = record {
  mirrored = set_both m.mirrored n.mirrored r _ _ (sn.mirrored ∙ sym sm.mirrored) (ap (learned_by_read (fields_of c r) (bit fields) read) h.mirrored);
  desired = set_both m.desired n.desired r _ _ (sn.desired ∙ sym sm.desired) (ap (learned_by_read (fields_of c r) (bit fields) read) h.desired);
  spent = h.spent;
}

pub read_other : (c : ChipData) (q read fields r : ℕ) (m : MirrorData) → (r ≡ q → ⊥) → SameBelief c r m (predict_read c q read fields m)
unfolding predict_read
read_other c q read fields r m other = record {
  mirrored = get_or-set_other m.mirrored q r _ 0 other;
  desired = get_or-set_other m.desired q r _ 0 other;
  spent = λ k at. refl;
}

pub read_size : (c : ChipData) (q read fields : ℕ) (m : MirrorData) → HasSize c m → HasSize c (predict_read c q read fields m)
unfolding predict_read
read_size c q read fields m s =
    record { mirrored = length-set m.mirrored q _ ∙ s.mirrored; desired = length-set m.desired q _ ∙ s.desired; spent = s.spent }

pub raw_same : (c : ChipData) (r v : ℕ) (m n : MirrorData) → HasSize c m → HasSize c n → SameBelief c r m n
    → SameBelief c r (predict_raw c r v m) (predict_raw c r v n)
unfolding predict_raw
raw_same c r v m n sm sn h = record {
  mirrored = set_both m.mirrored n.mirrored r _ _ (sn.mirrored ∙ sym sm.mirrored) refl;
  desired = set_both m.desired n.desired r _ _ (sn.desired ∙ sym sm.desired) refl;
  spent = h.spent;
}

pub raw_other : (c : ChipData) (q v r : ℕ) (m : MirrorData) → (r ≡ q → ⊥) → SameBelief c r m (predict_raw c q v m)
unfolding predict_raw
raw_other c q v r m other = record {
  mirrored = get_or-set_other m.mirrored q r _ 0 other;
  desired = get_or-set_other m.desired q r _ 0 other;
  spent = λ k at. refl;
}

pub raw_size : (c : ChipData) (q v : ℕ) (m : MirrorData) → HasSize c m → HasSize c (predict_raw c q v m)
unfolding predict_raw
raw_size c q v m s =
    record { mirrored = length-set m.mirrored q _ ∙ s.mirrored; desired = length-set m.desired q _ ∙ s.desired; spent = s.spent }

-- ---- a wish

abbrev wished : ChipData → (field v desired : ℕ) → Bool → ℕ
wished c field v desired spent =
    let f = (field_of c field).shape in
    from_bits 64 (put_bit f.lsb f.width (λ b. after_write f.policy (bit desired (f.lsb + b)) (bit v b) spent) (bit desired))

pub set_same : (c : ChipData) (field v : ℕ) (m n : MirrorData) → HasSize c m → HasSize c n → SameBelief c (reg_of c field) m n
    → SameBelief c (reg_of c field) (set_field c field v m) (set_field c field v n)
unfolding set_field
set_same c field v m n sm sn h =
    let r = reg_of c field in
    record {
      mirrored = h.mirrored;
      desired = set_both m.desired n.desired r _ _ (sn.desired ∙ sym sm.desired)
          (ap (λ d. wished c field v d (is_spent n field)) h.desired ∙ ap (wished c field v (desired_of m r)) (h.spent field refl));
      spent = h.spent;
    }

pub set_other : (c : ChipData) (field v r : ℕ) (m : MirrorData) → (r ≡ reg_of c field → ⊥) → SameBelief c r m (set_field c field v m)
unfolding set_field
set_other c field v r m other =
    record { mirrored = refl; desired = get_or-set_other m.desired (reg_of c field) r _ 0 other; spent = λ k at. refl }

pub set_size : (c : ChipData) (field v : ℕ) (m : MirrorData) → HasSize c m → HasSize c (set_field c field v m)
unfolding set_field
set_size c field v m s =
    record { mirrored = s.mirrored; desired = length-set m.desired (reg_of c field) _ ∙ s.desired; spent = s.spent }

-- ---- a reset

values_same : (c : ChipData) (r kind : ℕ) (xs ys : List ℕ) → length ys ≡ length xs → get_or ys r 0 ≡ get_or xs r 0
    → get_or (map (λ q. after_reset (fields_of c q) kind (get_or ys q 0)) (range_with_len 0 (length ys))) r 0
    ≡ get_or (map (λ q. after_reset (fields_of c q) kind (get_or xs q 0)) (range_with_len 0 (length xs))) r 0
values_same c r kind xs ys size same =
    map_both (λ q. after_reset (fields_of c q) kind (get_or xs q 0)) (λ q. after_reset (fields_of c q) kind (get_or ys q 0)) (length xs) (length ys) r 0 size
    (λ low. ap (after_reset (fields_of c r) kind) same)

pub cleared_same : {A : Type 0} (d : A) (b : Bool) (k : ℕ) (xs ys : List A) → length ys ≡ length xs → get_or ys k d ≡ get_or xs k d
    → get_or (if b then replicate (length ys) d else ys) k d ≡ get_or (if b then replicate (length xs) d else xs) k d
cleared_same d true k xs ys size same = ap (λ n. get_or (replicate n d) k d) size
cleared_same d false k xs ys size same = same

cleared_size : (b : Bool) (xs : List Bool) → length (if b then replicate (length xs) false else xs) ≡ length xs
cleared_size true xs = length-replicate (length xs) false
cleared_size false xs = refl

pub reset_same : (c : ChipData) (r kind : ℕ) (m n : MirrorData) → HasSize c m → HasSize c n → SameBelief c r m n
    → SameBelief c r (reset c kind m) (reset c kind n)
unfolding reset
reset_same c r kind m n sm sn h = record {
  mirrored = values_same c r kind m.mirrored n.mirrored (sn.mirrored ∙ sym sm.mirrored) h.mirrored;
  desired = values_same c r kind m.desired n.desired (sn.desired ∙ sym sm.desired) h.desired;
  spent = λ k at. cleared_same false (kind == 0) k m.spent n.spent (sn.spent ∙ sym sm.spent) (h.spent k at);
}

pub reset_size : (c : ChipData) (kind : ℕ) (m : MirrorData) → HasSize c m → HasSize c (reset c kind m)
unfolding reset
reset_size c kind m s = record {
  mirrored = length-map-range_with_len (λ q. after_reset (fields_of c q) kind (get_or m.mirrored q 0)) 0 (length m.mirrored) ∙ s.mirrored;
  desired = length-map-range_with_len (λ q. after_reset (fields_of c q) kind (get_or m.desired q 0)) 0 (length m.desired) ∙ s.desired;
  spent = cleared_size (kind == 0) m.spent ∙ s.spent;
}

-- ---- what is asked of a belief

pub needs_same : (c : ChipData) (r : ℕ) (m n : MirrorData) → SameBelief c r m n → needs_update n r ≡ needs_update m r
needs_same c r m n h = ap (λ d. not (d == mirrored_of n r)) h.desired ∙ ap (λ x. not (desired_of m r == x)) h.mirrored

pub update_same : (c : ChipData) (r : ℕ) (m n : MirrorData) → SameBelief c r m n → update_word_of c r n ≡ update_word_of c r m
unfolding update_word_of
update_same c r m n h =
    ap (λ d. update_word (fields_of c r) d (mirrored_of n r)) h.desired ∙ ap (update_word (fields_of c r) (desired_of m r)) h.mirrored

pub around_same : (c : ChipData) (field v : ℕ) (m n : MirrorData) → SameBelief c (reg_of c field) m n
    → neutral_around c field v n ≡ neutral_around c field v m
unfolding neutral_around
around_same c field v m n h =
    let f = (field_of c field).shape in
    ap (λ x. from_bits 64 (put_bit f.lsb f.width (bit v) (bit (neutral_word (fields_of c f.reg) x)))) h.mirrored

pub differ_same : (c : ChipData) (r read : ℕ) (m n : MirrorData) → SameBelief c r m n → differ c r read n ≡ differ c r read m
unfolding differ
differ_same c r read m n h = ap (differing (fields_of c r) read) h.mirrored

pub written_same : (c : ChipData) (r bits word : ℕ) (m n : MirrorData) → IsSound c → SameBelief c r m n
    → written (fields_of c r) (marks_in c n.spent r) bits word ≡ written (fields_of c r) (marks_in c m.spent r) bits word
unfolding written
written_same c r bits word m n sound h =
    let fs = fields_of c r in
    word_by_field-same fs (λ k b. after_write (policy_in fs k) (bit bits b) (bit word b) (marks_in c n.spent r k))
    (λ k b. after_write (policy_in fs k) (bit bits b) (bit word b) (marks_in c m.spent r k))
    (λ k b inside low covers. ap (after_write (policy_in fs k) (bit bits b) (bit word b)) (marks_same c r m n sound h k inside))
