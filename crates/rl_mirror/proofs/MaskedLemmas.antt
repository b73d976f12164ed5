-- Words of a register by its masks.
use Rattle.std.proofs.Common.{◌≡◌, ℕ, ◌+◌, ◌-◌, ◌*◌, ◌≤◌, ◌<◌, ◌^◌, Bool, true, false, cond, not, ◌&&◌, ◌||◌, leb, ltb, List, length, get_or, Option, Some, None, option_map, refl, sym, ap, ◌∙◌, inl, inr, le-leb, lt-ltb, le-ltb, arith}
use Rattle.std.specs.Prelude.{bit_and}
use Rattle.std.specs.Option.{option_map_or}
use Rattle.std.proofs.lemmas.Bool.{eqb-true, cases_lt}
use Rattle.std.proofs.lemmas.Nat.{and_le_l}
use Rattle.rl_policy.specs.Bits.{bit}
use Rattle.rl_policy.specs.Table.{after_write, after_read, value_read, spends_mark, is_write_only}
use Rattle.rl_policy.specs.declared.policy.Policy.{Policy}
use Rattle.rl_policy.specs.Access.{bit_written, bit_left}
use Rattle.rl_policy.specs.Masks.{owned_test, IsMaskOf, bits_written, bits_left}
use Rattle.rl_policy.proofs.BitLemmas.{bit-and, bit-zero, bit-max, bit-from_bits, from_bits-lt, from_bits-same}
use Rattle.rl_policy.proofs.TableLemmas.{after_write-by_mark}
use Rattle.rl_model.specs.Rows.{FieldSeen, ChipData}
use Rattle.rl_model.specs.Chip.{IsSound}
use Rattle.rl_model.specs.Fields.{first_of, count_of, size_of, fields_of, field_in, policy_in, place_at, policy_at, covers}
use Rattle.rl_mirror.specs.Fields.{word_by_field, owned, chosen_bits}
use Rattle.rl_mirror.specs.Prediction.{written, shown, left_by_read, learned_by_write, learned_by_read, told_bits, spent_after}
use Rattle.rl_mirror.proofs.PlaceLemmas.{place_is, is_place, covers_is}
use Rattle.rl_mirror.proofs.FieldLemmas.{field_list, field_in-fields_of, length-fields_of}
use Rattle.rl_mirror.proofs.WordLemmas.{bit-word_by_field, is_word_by_field, word_by_field-same, owned_bit, word_is_value}
use Rattle.rl_mirror.proofs.SpentLemmas.{spends_at, is_spent_so_far, spent_all}

-- a bit of a mask, by its field
pub mask_bit : (fs : List FieldSeen) (test : Policy → Bool) (mask b : ℕ) → IsMaskOf (policy_at fs) test mask → b < 64
    → bit mask b ≡ option_map_or (λ k. test (policy_in fs k)) (place_at fs b) false
mask_bit fs test mask b is l = is b l ∙ by (place_at fs b)
  where
    by : (o : Option ℕ) → owned_test test (option_map (policy_in fs) o) ≡ option_map_or (λ k. test (policy_in fs k)) o false
    by None = refl
    by (Some k) = refl

-- a bit that is set where a window has it
pub added : (old window : Bool) → (old || window) ≡ cond window true old
added true true = refl
added true false = refl
added false true = refl
added false false = refl

-- all fields are chosen
pub all_chosen : (fs : List FieldSeen) (mask : ℕ) → length fs ≤ 64 → mask < 2 ^ 64 → IsMaskOf (policy_at fs) (λ p. true) mask → mask ≡ chosen_bits fs (2 ^ 64 - 1)
all_chosen fs mask few fits is = is_word_by_field fs (λ k b. bit (2 ^ 64 - 1) k) mask fits (λ b l. mask_bit fs (λ p. true) mask b is l ∙ by b (place_at fs b) refl)
  where
    by : (b : ℕ) (o : Option ℕ) → place_at fs b ≡ o → option_map_or (λ k. true) o false ≡ option_map_or (λ k. bit (2 ^ 64 - 1) k) o false
    by b None at = refl
    by b (Some k) at = sym (bit-max k (omega (arith, (place_is fs b k at).0, few)))

-- the chosen fields that a read tells of
pub told_is : (fs : List FieldSeen) (chosen fields mask : ℕ) → chosen < 2 ^ 64 → chosen ≡ chosen_bits fs fields → IsMaskOf (policy_at fs) (λ p. value_read p true) mask
    → bit_and chosen mask ≡ told_bits fs fields
told_is fs chosen fields mask fits are is =
    is_word_by_field fs (λ k b. bit fields k && not (is_write_only (policy_in fs k))) (bit_and chosen mask) (omega (arith, fits, and_le_l chosen mask))
    (λ b l.
    bit-and chosen mask b ∙ by (place_at fs b) (bit chosen b) (bit mask b) (ap (λ n. bit n b) are ∙ bit-word_by_field fs (λ k b. bit fields k) b l)
    (mask_bit fs (λ p. value_read p true) mask b is l))
  where
    plain : (t : Bool) → cond t false true ≡ not t
    plain true = refl
    plain false = refl

    by : (o : Option ℕ) (c s : Bool) → c ≡ option_map_or (λ k. bit fields k) o false → s ≡ option_map_or (λ k. value_read (policy_in fs k) true) o false
        → (c && s) ≡ option_map_or (λ k. bit fields k && not (is_write_only (policy_in fs k))) o false
    by None c s e f = rw e refl
    by (Some k) c s e f = rw (e, f) (ap (λ t. bit fields k && t) (plain (is_write_only (policy_in fs k))))

-- ---- spent marks that aren't asked for

unmarked : (p : Policy) (x w s : Bool) → spends_mark p ≡ false → after_write p x w s ≡ after_write p x w false
unmarked p x w s e = after_write-by_mark p x w s ∙ ap (λ t. cond (t && s) x (after_write p x w false)) e

unasked_bit : (o : Option Policy) (x m z w l s : Bool) → s ≡ owned_test spends_mark o → (s && l) ≡ false → bit_written o x z w l ≡ bit_written o x m w l
unasked_bit None x m z w l s is none = refl
unasked_bit (Some p) x m z w false s is none = refl
unasked_bit (Some p) x m z w true s is none = unmarked p x w z plain ∙ sym (unmarked p x w m plain)
  where
    one : (t : Bool) → (t && true) ≡ false → t ≡ false
    one true e = e
    one false e = refl

    plain : spends_mark p ≡ false
    plain = sym is ∙ one s none

none_both : (a b i : ℕ) → bit_and a b ≡ 0 → (bit a i && bit b i) ≡ false
none_both a b i none = sym (bit-and a b i) ∙ ap (λ n. bit n i) none ∙ bit-zero i

pub unasked : (fs : List FieldSeen) (mask places : ℕ) (bits marks word : ℕ) → IsMaskOf (policy_at fs) spends_mark mask → bit_and mask places ≡ 0
    → bits_written (policy_at fs) bits 0 word places ≡ bits_written (policy_at fs) bits marks word places
unasked fs mask places bits marks word is none =
    from_bits-same 64 (λ b. bit_written (policy_at fs b) (bit bits b) (bit 0 b) (bit word b) (bit places b))
    (λ b. bit_written (policy_at fs b) (bit bits b) (bit marks b) (bit word b) (bit places b))
    (λ b l. unasked_bit (policy_at fs b) (bit bits b) (bit marks b) (bit 0 b) (bit word b) (bit places b) (bit mask b) (is b l) (none_both mask places b none))

-- so none is spent
seated_at : (o : Option ℕ) (k : ℕ) → is_place o k ≡ true → o ≡ Some k
seated_at None k e = cc
seated_at (Some j) k e = ap Some (eqb-true j k e)

pub none_spent : (c : ChipData) (reg fields mask places : ℕ) (spent : List Bool) → IsSound c → reg < length c.regs → length spent ≡ length c.fields
    → IsMaskOf (policy_at (fields_of c reg)) spends_mark mask → places ≡ chosen_bits (fields_of c reg) fields → bit_and mask places ≡ 0
    → spent ≡ spent_after c reg fields spent
none_spent c reg fields mask places spent sound l marks is are none =
    spent_all c reg fields spent spent sound l marks refl (λ n _. plain (get_or spent n false) (is_spent_so_far c reg fields (count_of c reg) n) (not_spent n))
  where
    plain : (old new : Bool) → new ≡ false → old ≡ (old || new)
    plain true new e = refl
    plain false new e = sym e

    here : (k : ℕ) → k < length (fields_of c reg) → spends_at c reg fields k ≡ false
    here k place =
        let fs = fields_of c reg in
        let list = field_list c reg sound l in
        let f = (field_in fs k).shape in
        let low : f.lsb < 64 = omega (arith, list.some k place, list.inside k place, list.most) in
        let from : leb f.lsb f.lsb ≡ true = le-leb f.lsb f.lsb (omega arith) in
        let before : ltb f.lsb (f.lsb + f.width) ≡ true = lt-ltb f.lsb (f.lsb + f.width) (omega (arith, list.some k place)) in
        let covered : covers f f.lsb ≡ true = rw (from, before) refl in
        let at : place_at fs f.lsb ≡ Some k = seated_at (place_at fs f.lsb) k (sym (covers_is (8 * size_of c reg) fs k f.lsb list place) ∙ covered) in
        let spends : bit mask f.lsb ≡ spends_mark (policy_in fs k) = mask_bit fs spends_mark mask f.lsb is low ∙ ap (λ (o : Option ℕ). option_map_or (λ k. spends_mark (policy_in fs k)) o false) at in
        let chosen : bit places f.lsb ≡ bit fields k =
        ap (λ n. bit n f.lsb) are ∙ bit-word_by_field fs (λ k b. bit fields k) f.lsb low ∙ ap (λ (o : Option ℕ). option_map_or (λ k. bit fields k) o false) at in
        let both : (bit fields k && spends_mark (policy_in fs k)) ≡ false = swap (spends_mark (policy_in fs k)) (bit fields k) (rw (spends, chosen) at (none_both mask places f.lsb none)) in
        ap (λ (g : FieldSeen). bit fields k && spends_mark g.shape.policy) (sym (field_in-fields_of c reg k sound l place)) ∙ both
      where
        swap : (a b : Bool) → (a && b) ≡ false → (b && a) ≡ false
        swap true true e = e
        swap true false e = refl
        swap false true e = refl
        swap false false e = refl

    not_spent : (n : ℕ) → is_spent_so_far c reg fields (count_of c reg) n ≡ false
    not_spent n =
        elim (cases_lt (n - first_of c reg) (count_of c reg)) [
          | inl inside ↦
              ap (λ t. leb (first_of c reg) n && (ltb (n - first_of c reg) (count_of c reg) && t)) (here (n - first_of c reg) (omega (arith, inside, length-fields_of c reg sound l)))
              ∙ ends (leb (first_of c reg) n) (ltb (n - first_of c reg) (count_of c reg))
          | inr past ↦ rw (le-ltb (n - first_of c reg) (count_of c reg) past) (first_ends (leb (first_of c reg) n))
        ]
      where
        ends : (a b : Bool) → (a && (b && false)) ≡ false
        ends true true = refl
        ends true false = refl
        ends false b = refl

        first_ends : (a : Bool) → (a && false) ≡ false
        first_ends true = refl
        first_ends false = refl

-- ---- words that accesses bring

-- a register's value after a write of the chosen fields
pub known_is : (fs : List FieldSeen) (fields bits word places : ℕ) (marks : ℕ → Bool) → bits ≡ owned fs bits → places ≡ chosen_bits fs fields
    → bits_written (policy_at fs) bits (word_by_field fs (λ k b. marks k)) word places ≡ learned_by_write fs (bit fields) marks bits word bits
unfolding learned_by_write
known_is fs fields bits word places marks held are =
    is_word_by_field fs (λ k b. cond (bit fields k) (after_write (policy_in fs k) (bit bits b) (bit word b) (marks k)) (bit bits b)) (bits_written (policy_at fs) bits m word places)
    (from_bits-lt 64 (λ b. bit_written (policy_at fs b) (bit bits b) (bit m b) (bit word b) (bit places b)))
    (λ b l.
    bit-from_bits 64 (λ b. bit_written (policy_at fs b) (bit bits b) (bit m b) (bit word b) (bit places b)) b l
    ∙ by (place_at fs b) (bit bits b) (bit word b) (bit m b) (bit places b) (owned_bit fs bits b held l) (bit-word_by_field fs (λ k b. marks k) b l)
    (ap (λ n. bit n b) are ∙ bit-word_by_field fs (λ k b. bit fields k) b l))
  where
    m : ℕ
    m = word_by_field fs (λ k b. marks k)

    by : (o : Option ℕ) (x w s p : Bool) → x ≡ option_map_or (λ k. x) o false → s ≡ option_map_or (λ k. marks k) o false → p ≡ option_map_or (λ k. bit fields k) o false
        → bit_written (option_map (policy_in fs) o) x s w p ≡ option_map_or (λ k. cond (bit fields k) (after_write (policy_in fs k) x w (marks k)) x) o false
    by None x w s p e f g = e
    by (Some k) x w s p e f g = rw (f, g) refl

-- a value of a register in whose chosen fields other bits were put
pub laid_is : (fs : List FieldSeen) (chosen : ℕ → Bool) (part : ℕ → ℕ → Bool) (kept by places new : ℕ) → new < 2 ^ 64 → kept ≡ owned fs kept
    → ((b : ℕ) → b < 64 → bit new b ≡ cond (bit places b) (bit by b) (bit kept b)) → places ≡ word_by_field fs (λ k b. chosen k)
    → ((b k : ℕ) → b < 64 → place_at fs b ≡ Some k → chosen k ≡ true → bit by b ≡ part k b)
    → new ≡ word_by_field fs (λ k b. cond (chosen k) (part k b) (bit kept b))
laid_is fs chosen part kept by places new fits held is are laid =
    is_word_by_field fs (λ k b. cond (chosen k) (part k b) (bit kept b)) new fits
    (λ b l. is b l ∙ at b l (place_at fs b) refl (bit places b) (owned_bit fs kept b held l) (ap (λ n. bit n b) are ∙ bit-word_by_field fs (λ k b. chosen k) b l))
  where
    put : (b k : ℕ) → b < 64 → place_at fs b ≡ Some k → (t : Bool) → chosen k ≡ t → cond t (bit by b) (bit kept b) ≡ cond t (part k b) (bit kept b)
    put b k l seat true e = laid b k l seat e
    put b k l seat false e = refl

    at : (b : ℕ) → b < 64 → (o : Option ℕ) → place_at fs b ≡ o → (p : Bool) → bit kept b ≡ option_map_or (λ k. bit kept b) o false → p ≡ option_map_or chosen o false
        → cond p (bit by b) (bit kept b) ≡ option_map_or (λ k. cond (chosen k) (part k b) (bit kept b)) o false
    at b l None seat p e f = rw f e
    at b l (Some k) seat p e f = rw f (put b k l seat (chosen k) refl)

-- a desired value after a write of the chosen fields
pub wish_is : (fs : List FieldSeen) (fields mirrored word desired known places new : ℕ) (marks : ℕ → Bool) → new < 2 ^ 64 → desired ≡ owned fs desired
    → known ≡ learned_by_write fs (bit fields) marks mirrored word mirrored → places ≡ chosen_bits fs fields
    → ((b : ℕ) → b < 64 → bit new b ≡ cond (bit places b) (bit known b) (bit desired b))
    → new ≡ learned_by_write fs (bit fields) marks mirrored word desired
unfolding learned_by_write
wish_is fs fields mirrored word desired known places new marks fits held is are same =
    laid_is fs (bit fields) (λ k b. after_write (policy_in fs k) (bit mirrored b) (bit word b) (marks k)) desired known places new fits held same are
    (λ b k l seat e.
    ap (λ n. bit n b) is ∙ bit-word_by_field fs (λ k b. cond (bit fields k) (after_write (policy_in fs k) (bit mirrored b) (bit word b) (marks k)) (bit mirrored b)) b l
    ∙ ap (λ (o : Option ℕ). option_map_or (λ k. cond (bit fields k) (after_write (policy_in fs k) (bit mirrored b) (bit word b) (marks k)) (bit mirrored b)) o false) seat
    ∙ ap (λ t. cond t (after_write (policy_in fs k) (bit mirrored b) (bit word b) (marks k)) (bit mirrored b)) e)

-- a value after a read of the chosen fields
pub learned_is : (fs : List FieldSeen) (fields read kept left places new : ℕ) → new < 2 ^ 64 → kept ≡ owned fs kept → places ≡ told_bits fs fields
    → left ≡ bits_left (policy_at fs) read places → ((b : ℕ) → b < 64 → bit new b ≡ cond (bit places b) (bit left b) (bit kept b))
    → new ≡ learned_by_read fs (bit fields) read kept
unfolding learned_by_read
learned_is fs fields read kept left places new fits held are is same =
    laid_is fs tells (λ k b. after_read (policy_in fs k) (bit read b)) kept left places new fits held same are
    (λ b k l seat e.
    ap (λ n. bit n b) is ∙ bit-from_bits 64 (λ b. bit_left (policy_at fs b) (bit read b) (bit places b)) b l
    ∙ rw (seat, ap (λ n. bit n b) are ∙ bit-word_by_field fs (λ k b. tells k) b l ∙ ap (λ (o : Option ℕ). option_map_or tells o false) seat ∙ e) refl)
    ∙ word_by_field-same fs (λ k b. cond (tells k) (after_read (policy_in fs k) (bit read b)) (bit kept b))
    (λ k b. cond (bit fields k) (cond (is_write_only (policy_in fs k)) (bit kept b) (after_read (policy_in fs k) (bit read b))) (bit kept b))
    (λ k b place l in_it. split (bit fields k) (is_write_only (policy_in fs k)) (after_read (policy_in fs k) (bit read b)) (bit kept b))
  where
    tells : ℕ → Bool
    tells k = bit fields k && not (is_write_only (policy_in fs k))

    split : (c w x y : Bool) → cond (c && not w) x y ≡ cond c (cond w y x) y
    split true true x y = refl
    split true false x y = refl
    split false w x y = refl

-- ---- accesses to all fields

owned_part : (fs : List FieldSeen) (mask n : ℕ) (f : ℕ → Option Policy → Bool) (part : ℕ → ℕ → Bool) → mask < 2 ^ 64 → IsMaskOf (policy_at fs) (λ p. true) mask
    → ((b : ℕ) → b < 64 → bit n b ≡ f b (policy_at fs b)) → ((b k : ℕ) → f b (Some (policy_in fs k)) ≡ part k b)
    → bit_and mask n ≡ word_by_field fs part
owned_part fs mask n f part fits is bits same =
    is_word_by_field fs part (bit_and mask n) (omega (arith, fits, and_le_l mask n))
    (λ b l. bit-and mask n b ∙ by b (place_at fs b) (bit mask b) (bit n b) (mask_bit fs (λ p. true) mask b is l) (bits b l))
  where
    by : (b : ℕ) (o : Option ℕ) (m x : Bool) → m ≡ option_map_or (λ k. true) o false → x ≡ f b (option_map (policy_in fs) o) → (m && x) ≡ option_map_or (λ k. part k b) o false
    by b None m x e g = rw e refl
    by b (Some k) m x e g = rw (e, g) (same b k)

pub owned_is : (fs : List FieldSeen) (mask bits : ℕ) → mask < 2 ^ 64 → IsMaskOf (policy_at fs) (λ p. true) mask → bit_and mask bits ≡ owned fs bits
owned_is fs mask bits fits is = owned_part fs mask bits (λ b o. bit bits b) (λ k b. bit bits b) fits is (λ b l. refl) (λ b k. refl)

pub written_is : (fs : List FieldSeen) (mask bits word new : ℕ) (marks : ℕ → Bool) → mask < 2 ^ 64 → IsMaskOf (policy_at fs) (λ p. true) mask
    → new ≡ bits_written (policy_at fs) bits (word_by_field fs (λ k b. marks k)) word (2 ^ 64 - 1) → bit_and mask new ≡ written fs marks bits word
unfolding written
written_is fs mask bits word new marks fits is e =
    is_word_by_field fs (λ k b. after_write (policy_in fs k) (bit bits b) (bit word b) (marks k)) (bit_and mask new) (omega (arith, fits, and_le_l mask new))
    (λ b l.
    bit-and mask new b
    ∙ by b (place_at fs b) (bit mask b) (bit new b) (bit m b) (bit (2 ^ 64 - 1) b) (mask_bit fs (λ p. true) mask b is l)
    (ap (λ n. bit n b) e ∙ bit-from_bits 64 (λ b. bit_written (policy_at fs b) (bit bits b) (bit m b) (bit word b) (bit (2 ^ 64 - 1) b)) b l)
    (bit-word_by_field fs (λ k b. marks k) b l) (bit-max b l))
  where
    m : ℕ
    m = word_by_field fs (λ k b. marks k)

    by : (b : ℕ) (o : Option ℕ) (t x s a : Bool) → t ≡ option_map_or (λ k. true) o false → x ≡ bit_written (option_map (policy_in fs) o) (bit bits b) s (bit word b) a
        → s ≡ option_map_or (λ k. marks k) o false → a ≡ true
        → (t && x) ≡ option_map_or (λ k. after_write (policy_in fs k) (bit bits b) (bit word b) (marks k)) o false
    by b None t x s a e f g h = rw e refl
    by b (Some k) t x s a e f g h = rw (e, f, g, h) refl

pub left_is : (fs : List FieldSeen) (mask bits left : ℕ) → mask < 2 ^ 64 → IsMaskOf (policy_at fs) (λ p. true) mask → left ≡ bits_left (policy_at fs) bits (2 ^ 64 - 1)
    → bit_and mask left ≡ left_by_read fs bits
unfolding left_by_read
left_is fs mask bits left fits is e =
    owned_part fs mask left (λ b o. bit_left o (bit bits b) true) (λ k b. after_read (policy_in fs k) (bit bits b)) fits is
    (λ b l.
    ap (λ n. bit n b) e ∙ bit-from_bits 64 (λ b. bit_left (policy_at fs b) (bit bits b) (bit (2 ^ 64 - 1) b)) b l
    ∙ ap (bit_left (policy_at fs b) (bit bits b)) (bit-max b l))
    (λ b k. refl)

pub shown_is : (fs : List FieldSeen) (mask bits : ℕ) → mask < 2 ^ 64 → IsMaskOf (policy_at fs) (λ p. value_read p true) mask → bit_and mask bits ≡ shown fs bits
unfolding shown
shown_is fs mask bits fits is =
    is_word_by_field fs (λ k b. value_read (policy_in fs k) (bit bits b)) (bit_and mask bits) (omega (arith, fits, and_le_l mask bits))
    (λ b l. bit-and mask bits b ∙ by b (place_at fs b) (bit mask b) (mask_bit fs (λ p. value_read p true) mask b is l))
  where
    seen : (w x : Bool) → (cond w false true && x) ≡ cond w false x
    seen true x = refl
    seen false x = refl

    by : (b : ℕ) (o : Option ℕ) (m : Bool) → m ≡ option_map_or (λ k. value_read (policy_in fs k) true) o false → (m && bit bits b) ≡ option_map_or (λ k. value_read (policy_in fs k) (bit bits b)) o false
    by b None m e = rw e refl
    by b (Some k) m e = rw e (seen (is_write_only (policy_in fs k)) (bit bits b))

-- these words are values of their register

pub written_fits : (c : ChipData) (reg bits word : ℕ) (marks : ℕ → Bool) → IsSound c → reg < length c.regs → written (fields_of c reg) marks bits word < 256 ^ size_of c reg
unfolding written
written_fits c reg bits word marks sound l = (word_is_value c reg (λ k b. after_write (policy_in (fields_of c reg) k) (bit bits b) (bit word b) (marks k)) sound l).fits

pub left_fits : (c : ChipData) (reg bits : ℕ) → IsSound c → reg < length c.regs → left_by_read (fields_of c reg) bits < 256 ^ size_of c reg
unfolding left_by_read
left_fits c reg bits sound l = (word_is_value c reg (λ k b. after_read (policy_in (fields_of c reg) k) (bit bits b)) sound l).fits

pub shown_fits : (c : ChipData) (reg bits : ℕ) → IsSound c → reg < length c.regs → shown (fields_of c reg) bits < 256 ^ size_of c reg
unfolding shown
shown_fits c reg bits sound l = (word_is_value c reg (λ k b. value_read (policy_in (fields_of c reg) k) (bit bits b)) sound l).fits
