-- A bit that a flaw can't show: how it stands in both devices, and that each call keeps this.
use Rattle.std.proofs.Common.{◌≡◌, ◌⊎◌, inl, inr, ℕ, Bool, true, false, not, ◌&&◌, ◌||◌, if◌then◌else◌, Option, Some, None, refl, sym, ap, subst, ◌∙◌}
use Rattle.std.proofs.lemmas.Bool.{and_parts}
use Rattle.rl_policy.specs.Access.{bit_answered, bit_left, bit_written, mark_written}
use Rattle.rl_policy.specs.Table.{after_read, after_write, is_write_only, spends_mark}
use Rattle.rl_policy.specs.declared.policy.Policy.{Policy}
use Rattle.rl_bus.specs.Setup.{or_else}
use Rattle.rl_grade.specs.declared.bits.FlawedBit.{FlawedBit}
use Rattle.rl_grade.specs.declared.bits.Ways.{Ways}
use Rattle.rl_grade.specs.Hidden.{for_both, is_alike, is_fixed, is_loose, is_same, is_unseen, keeps_read, keeps_written, may_hold, reads_alike, writes_alike}

-- the same in both devices; this value in both; or whatever
pub data Way : Type 0 where
  alike : Way
  fixed : Bool → Way
  unseen : Way

-- its bit and mark without the flaw, and with it
abbrev pub Stands : Way → (x m y n : Bool) → Type 0
Stands alike x m y n = (y ≡ x) × (n ≡ m)
Stands (fixed v) x m y n = (x ≡ v) × (y ≡ v)
Stands unseen x m y n = Unit {0}

pub record Closes (way : Way) (w : Ways) (deaf volatile : Bool) (P Q : Option Policy) (S : Option Bool) : Type 0 where
  pub shown : w.read ≡ true → (x m y n : Bool) → Stands way x m y n → bit_answered Q y ≡ bit_answered P x
  pub read : w.read ≡ true → (l x m y n : Bool) → Stands way x m y n → Stands way (bit_left P x l) m (or_else S (bit_left Q y l)) n
  pub written : w.written ≡ true → deaf ≡ false → (v l x m y n : Bool) → Stands way x m y n
      → Stands way (bit_written P x m v l) (mark_written P m l) (or_else S (bit_written Q y n v l)) (mark_written Q n l)
  pub unheard : w.written ≡ true → deaf ≡ true → (v l x m y n : Bool) → Stands way x m y n
      → Stands way (bit_written P x m v l) (mark_written P m l) y n
  pub put : (w.backdoor ≡ true) ⊎ (volatile ≡ true) → (v x m y n : Bool) → Stands way x m y n → Stands way v m (or_else S v) n
  pub keep : (x m y n : Bool) → Stands way x m y n → Stands way x m (or_else S y) n
  pub same : w.backdoor ≡ true → (x m y n : Bool) → Stands way x m y n → y ≡ x

-- ---- tests

pub same_is : (a b : Bool) → is_same a b ≡ true → a ≡ b
same_is true true h = refl
same_is false false h = refl
same_is true false h = absurd cc
same_is false true h = absurd cc

both_are : (test : Bool → Bool) → for_both test ≡ true → (b : Bool) → test b ≡ true
both_are test h false = (and_parts (test false) (test true) h).0
both_are test h true = (and_parts (test false) (test true) h).1

needed : (b test : Bool) → (not b || test) ≡ true → b ≡ true → test ≡ true
needed true test h so = h
needed false test h so = absurd cc

not_so : {A : Type 0} (b : Bool) → not b ≡ true → b ≡ true → A
not_so true h so = absurd cc
not_so false h so = absurd cc

or_not : (m l : Bool) → (m || (l && false)) ≡ m
or_not true l = refl
or_not false true = refl
or_not false false = refl

by_lane : (l a b x y : Bool) → a ≡ b → x ≡ y → (if l then a else x) ≡ (if l then b else y)
by_lane true a b x y h k = h
by_lane false a b x y h k = k

-- ---- one that no flaw touches

pub untouched : (w : Ways) (volatile : Bool) (P : Option Policy) → Closes alike w false volatile P P None
untouched w volatile P = record {
  shown = λ so x m y n h. ap (bit_answered P) h.0;
  read = λ so l x m y n h. (ap (λ b. bit_left P b l) h.0, h.1);
  written = λ so heard v l x m y n h. (ap (λ b. bit_written P b n v l) h.0 ∙ ap (λ b. bit_written P x b v l) h.1, ap (λ b. mark_written P b l) h.1);
  unheard = λ so deaf. absurd cc;
  put = λ so v x m y n h. (refl, h.1);
  keep = λ x m y n h. h;
  same = λ so x m y n h. h.0;
}

-- and one outside all fields
pub outside : (w : Ways) (deaf volatile : Bool) → Closes alike w deaf volatile None None None
outside w deaf volatile = record {
  shown = λ so x m y n h. refl;
  read = λ so l x m y n h. h;
  written = λ so heard v l x m y n h. h;
  unheard = λ so is v l x m y n h. h;
  put = λ so v x m y n h. (refl, h.1);
  keep = λ x m y n h. h;
  same = λ so x m y n h. h.0;
}

-- ---- one that is the same in both

answered_same : (own other : Policy) (x y : Bool) → is_write_only own ≡ is_write_only other → y ≡ x
    → bit_answered (Some other) y ≡ bit_answered (Some own) x
answered_same own other x y wo h =
    ap (λ b. if b then false else y) (sym wo) ∙ ap (λ b. if is_write_only own then false else b) h

abbrev bit_with : (own other : Policy) → (stuck : Option Bool) → (deaf volatile : Bool) → FlawedBit
bit_with own other stuck deaf volatile = record { own = own; other = other; stuck = stuck; deaf = deaf; volatile = volatile }

reads_same : (w : Ways) (own other : Policy) (deaf volatile : Bool) → (not w.read || reads_alike (bit_with own other None deaf volatile)) ≡ true → w.read ≡ true
    → (is_write_only own ≡ is_write_only other) × ((b : Bool) → after_read own b ≡ after_read other b)
reads_same w own other deaf volatile h so =
    let parts = and_parts (is_same (is_write_only own) (is_write_only other)) _ (needed w.read _ h so) in
    (same_is _ _ parts.0, λ b. same_is _ _ (both_are (λ old. is_same (after_read own old) (after_read other old)) parts.1 b))

effect_same : (own : Policy) (other : Bool → Bool → Bool → Bool)
    → for_both (λ old. for_both (λ new. for_both (λ spent. is_same (after_write own old new spent) (other old new spent)))) ≡ true
    → (x v m : Bool) → after_write own x v m ≡ other x v m
effect_same own other h x v m =
    let olds = both_are (λ old. for_both (λ new. for_both (λ spent. is_same (after_write own old new spent) (other old new spent)))) h x in
    let news = both_are (λ new. for_both (λ spent. is_same (after_write own x new spent) (other x new spent))) olds v in
    same_is _ _ (both_are (λ spent. is_same (after_write own x v spent) (other x v spent)) news m)

lane_same : (l x : Bool) → (if l then x else x) ≡ x
lane_same true x = refl
lane_same false x = refl

alike_deaf : (w : Ways) (own other : Policy) (volatile : Bool)
    → ((not w.written || writes_alike (bit_with own other None true volatile)) && (not w.read || reads_alike (bit_with own other None true volatile))) ≡ true
    → Closes alike w true volatile (Some own) (Some other) None
alike_deaf w own other volatile h =
    let parts = and_parts (not w.written || writes_alike (bit_with own other None true volatile)) _ h in
    let reads = reads_same w own other true volatile parts.1 in record {
      shown = λ so x m y n k. answered_same own other x y (reads so).0 k.0;
      read = λ so l x m y n k. (by_lane l _ _ y x (ap (after_read other) k.0 ∙ sym ((reads so).1 x)) k.0, k.1);
      written = λ so heard. absurd cc;
      unheard = λ so is v l x m y n k.
          let tests = and_parts (is_same (spends_mark own) false) _ (needed w.written _ parts.0 so) in
          let stays : after_write own x v m ≡ x = effect_same own (λ old new spent. old) tests.1 x v m in
          let unspent : spends_mark own ≡ false = same_is _ _ tests.0 in
          (k.0 ∙ sym (by_lane l _ _ x x stays refl ∙ lane_same l x), k.1 ∙ sym (ap (λ b. m || (l && b)) unspent ∙ or_not m l));
      put = λ so v x m y n k. (refl, k.1);
      keep = λ x m y n k. k;
      same = λ so x m y n k. k.0;
    }

alike_heard : (w : Ways) (own other : Policy) (volatile : Bool)
    → ((not w.written || writes_alike (bit_with own other None false volatile)) && (not w.read || reads_alike (bit_with own other None false volatile))) ≡ true
    → Closes alike w false volatile (Some own) (Some other) None
alike_heard w own other volatile h =
    let parts = and_parts (not w.written || writes_alike (bit_with own other None false volatile)) _ h in
    let reads = reads_same w own other false volatile parts.1 in record {
      shown = λ so x m y n k. answered_same own other x y (reads so).0 k.0;
      read = λ so l x m y n k. (by_lane l _ _ y x (ap (after_read other) k.0 ∙ sym ((reads so).1 x)) k.0, k.1);
      written = λ so heard v l x m y n k.
          let tests = and_parts (is_same (spends_mark own) (spends_mark other)) _ (needed w.written _ parts.0 so) in
          let effect : after_write own x v m ≡ after_write other x v m = effect_same own (after_write other) tests.1 x v m in
          let spends : spends_mark own ≡ spends_mark other = same_is _ _ tests.0 in (
            by_lane l _ _ y x (ap (λ b. after_write other b v n) k.0 ∙ ap (after_write other x v) k.1 ∙ sym effect) k.0,
            ap (λ b. b || (l && spends_mark other)) k.1 ∙ ap (λ b. m || (l && b)) (sym spends),
          );
      unheard = λ so is. absurd cc;
      put = λ so v x m y n k. (refl, k.1);
      keep = λ x m y n k. k;
      same = λ so x m y n k. k.0;
    }

pub alike_closes : (w : Ways) (own other : Policy) (stuck : Option Bool) (deaf volatile : Bool)
    → is_alike w (bit_with own other stuck deaf volatile) ≡ true → Closes alike w deaf volatile (Some own) (Some other) stuck
alike_closes w own other (Some v) deaf volatile h = absurd cc
alike_closes w own other None true volatile h = alike_deaf w own other volatile h
alike_closes w own other None false volatile h = alike_heard w own other volatile h

-- ---- one that isn't looked at

pub unseen_closes : (w : Ways) (own other : Policy) (stuck : Option Bool) (deaf volatile : Bool)
    → is_unseen w (record { own = own; other = other; stuck = stuck; deaf = deaf; volatile = volatile }) ≡ true
    → Closes unseen w deaf volatile (Some own) (Some other) stuck
unseen_closes w own other stuck deaf volatile h =
    let parts = and_parts (not w.backdoor) _ h in record {
      shown = λ so x m y n k.
          let wo = and_parts (is_write_only own) (is_write_only other) (needed w.read _ parts.1 so) in
          ap (λ b. if b then false else y) wo.1 ∙ sym (ap (λ b. if b then false else x) wo.0);
      read = λ so l x m y n k. tt;
      written = λ so heard v l x m y n k. tt;
      unheard = λ so is v l x m y n k. tt;
      put = λ so v x m y n k. tt;
      keep = λ x m y n k. tt;
      same = λ so. not_so w.backdoor parts.0 so;
    }

-- ---- one that has one value

at_value : (l v a x : Bool) → a ≡ v → x ≡ v → (if l then a else x) ≡ v
at_value true v a x h k = h
at_value false v a x h k = k

pub stuck_at_it : (v : Bool) (stuck : Option Bool) (y : Bool) → may_hold v stuck ≡ true → y ≡ v → or_else stuck y ≡ v
stuck_at_it v None y h k = k
stuck_at_it v (Some s) y h k = same_is s v h

written_to : (v : Bool) (p : Policy) → keeps_written v p ≡ true → (x new spent : Bool) → x ≡ v → after_write p x new spent ≡ v
written_to v p h x new spent is =
    let news = both_are (λ new. for_both (λ spent. is_same (after_write p v new spent) v)) h new in
    ap (λ b. after_write p b new spent) is ∙ same_is _ _ (both_are (λ spent. is_same (after_write p v new spent) v) news spent)

read_to : (v : Bool) (p : Policy) → keeps_read v p ≡ true → (x : Bool) → x ≡ v → after_read p x ≡ v
read_to v p h x is = ap (after_read p) is ∙ same_is _ _ h

fixed_closes : (v : Bool) (w : Ways) (own other : Policy) (stuck : Option Bool) (deaf volatile : Bool)
    → is_fixed v w (record { own = own; other = other; stuck = stuck; deaf = deaf; volatile = volatile }) ≡ true
    → Closes (fixed v) w deaf volatile (Some own) (Some other) stuck
fixed_closes v w own other stuck deaf volatile h =
    let first = and_parts (not w.backdoor) _ h in
    let second = and_parts (not volatile) _ first.1 in
    let third = and_parts (may_hold v stuck) _ second.1 in
    let fourth = and_parts (not w.written || (keeps_written v own && (deaf || keeps_written v other))) _ third.1 in
    record {
      shown = λ so x m y n k.
          let reads = and_parts (keeps_read v own) _ (needed w.read _ fourth.1 so) in
          let more = and_parts (keeps_read v other) _ reads.1 in
          answered_same own other x y (same_is _ _ more.1) (k.1 ∙ sym k.0);
      read = λ so l x m y n k.
          let reads = and_parts (keeps_read v own) _ (needed w.read _ fourth.1 so) in
          let more = and_parts (keeps_read v other) _ reads.1 in
          (at_value l v _ x (read_to v own reads.0 x k.0) k.0, stuck_at_it v stuck _ third.0 (at_value l v _ y (read_to v other more.0 y k.1) k.1));
      written = λ so heard new l x m y n k.
          let writes = and_parts (keeps_written v own) _ (needed w.written _ fourth.0 so) in
          let heeds : keeps_written v other ≡ true = heard_keeps deaf (keeps_written v other) heard writes.1 in (
            at_value l v _ x (written_to v own writes.0 x new m k.0) k.0,
            stuck_at_it v stuck _ third.0 (at_value l v _ y (written_to v other heeds y new n k.1) k.1),
          );
      unheard = λ so is new l x m y n k.
          let writes = and_parts (keeps_written v own) _ (needed w.written _ fourth.0 so) in
          (at_value l v _ x (written_to v own writes.0 x new m k.0) k.0, k.1);
      put = λ so. elim so as (λ s. (v' x m y n : Bool) → Stands (fixed v) x m y n → Stands (fixed v) v' m (or_else stuck v') n) [
        | inl back ↦ not_so w.backdoor first.0 back
        | inr moves ↦ not_so volatile second.0 moves
      ];
      keep = λ x m y n k. (k.0, stuck_at_it v stuck y third.0 k.1);
      same = λ so x m y n k. k.1 ∙ sym k.0;
    }
  where
    heard_keeps : (d b : Bool) → d ≡ false → (d || b) ≡ true → b ≡ true
    heard_keeps false b so h = h
    heard_keeps true b so h = absurd cc

-- ---- which of them it is

abbrev pub way_of : (is_alike is_unseen v : Bool) → Way
way_of a u v = if a then alike else if u then unseen else fixed v

pub hidden_closes : (w : Ways) (own other : Policy) (stuck : Option Bool) (deaf volatile v rest : Bool)
    → let b : FlawedBit = record { own = own; other = other; stuck = stuck; deaf = deaf; volatile = volatile } in
    (is_alike w b || (is_unseen w b || (is_fixed v w b && rest))) ≡ true
    → Closes (way_of (is_alike w b) (is_unseen w b) v) w deaf volatile (Some own) (Some other) stuck
hidden_closes w own other stuck deaf volatile v rest h =
    let b : FlawedBit = record { own = own; other = other; stuck = stuck; deaf = deaf; volatile = volatile } in
    by_test (is_alike w b) (is_unseen w b) (alike_closes w own other stuck deaf volatile) (unseen_closes w own other stuck deaf volatile)
    (λ so. fixed_closes v w own other stuck deaf volatile (and_parts (is_fixed v w b) rest so).0) h
  where
    by_test : (a u : Bool) {f : Bool} → (a ≡ true → Closes alike w deaf volatile (Some own) (Some other) stuck)
        → (u ≡ true → Closes unseen w deaf volatile (Some own) (Some other) stuck) → (f ≡ true → Closes (fixed v) w deaf volatile (Some own) (Some other) stuck)
        → (a || (u || f)) ≡ true → Closes (way_of a u v) w deaf volatile (Some own) (Some other) stuck
    by_test true u p q r h = p refl
    by_test false true p q r h = q refl
    by_test false false p q r h = r h

-- and one that has one value has it by its last two conditions
pub fixed_last : (a u f rest : Bool) → a ≡ false → u ≡ false → (a || (u || (f && rest))) ≡ true → (f ≡ true) × (rest ≡ true)
fixed_last false false f rest p q h = and_parts f rest h
fixed_last true u f rest p q h = absurd cc
fixed_last false true f rest p q h = absurd cc
