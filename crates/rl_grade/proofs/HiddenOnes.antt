-- Each kind of flaw that no script can show: with it the same is heard as without it.
use Rattle.std.proofs.Common.{◌≡◌, ℕ, zero, suc, ◌+◌, ◌<◌, Bool, true, false, not, ◌&&◌, ◌||◌, ◌==◌, if◌then◌else◌, List, [], ◌∷◌, length}
use Rattle.std.proofs.Common.{Option, Some, None, option_map, refl, sym, ap, subst, ◌∙◌, arith}
use Rattle.std.specs.Prelude.{bit_and, bit_xor, get_or, nat_le, nat_lt, slice_get, unwrap_or}
use Rattle.std.specs.Int.Bits.{xor_self}
use Rattle.std.specs.List.{range_with_len}
use Rattle.std.specs.Option.{option_map_or, option_or}
use Rattle.std.proofs.lemmas.Bool.{and_parts, eqb-true, eq-eqb, false_from_ne_true, le-leb, lt-ltb}
use Rattle.std.proofs.lemmas.List.FromFn.{get_or-range_with_len, length-range_with_len}
use Rattle.std.proofs.lemmas.List.Sums.{AllPass-from_list_all}
use Rattle.std.proofs.lemmas.Nat.{and_le_r}
use Rattle.std.proofs.lemmas.Option.{slice_get-get_or}
use Rattle.rl_policy.specs.Bits.{is_within}
use Rattle.rl_policy.specs.declared.policy.Policy.{Policy}
use Rattle.rl_bus.specs.Standing.{Standing}
use Rattle.rl_bus.specs.declared.table.FieldRow.{FieldRow}
use Rattle.rl_bus.specs.declared.table.PolicyRow.{PolicyRow}
use Rattle.rl_bus.specs.declared.table.ResetRow.{ResetRow}
use Rattle.rl_bus.specs.declared.table.StuckRow.{StuckRow}
use Rattle.rl_bus.specs.Setup.{Flaws, field_at, field_of as row_of_field, no_mem, or_else, reset_of, stuck_at, value_in}
use Rattle.rl_model.specs.declared.rows.Item.TheVariants.{Reg, Mem}
use Rattle.rl_model.specs.declared.rows.MemRow.{MemRow}
use Rattle.rl_model.specs.Chip.{IsSound}
use Rattle.rl_model.specs.Fields.{field_of, no_field}
use Rattle.rl_model.specs.Rows.{ChipData, FieldSeen}
use Rattle.rl_mirror.proofs.FieldLemmas.{apart_fields}
use Rattle.rl_map.specs.Layout.{LayoutData}
use Rattle.rl_map.specs.Tables.{mem_rows, setup_of}
use Rattle.rl_access.specs.Rules.{is_writable}
use Rattle.rl_flaw.specs.declared.flaw.Flaw.{Flaw}
use Rattle.rl_flaw.specs.declared.flaw.Flaw.TheVariants.{Deaf, ErrorNth, ErrorRange, OtherPolicy, OtherReset, Stuck}
use Rattle.rl_flaw.specs.Flaws.{flaws_of, locations_of, width_of}
use Rattle.rl_desc.specs.Data.{DescData}
use Rattle.rl_access.specs.World.{World}
use Rattle.rl_report.specs.Lines.{lines_of}
use Rattle.rl_log.specs.Log.{script_from}
use Rattle.rl_log.specs.Recording.{no_counts}
use Rattle.rl_session.specs.Judged.{first_world}
use Rattle.rl_grade.specs.declared.bits.FlawedBit.{FlawedBit}
use Rattle.rl_grade.specs.declared.bits.Ways.{Ways}
use Rattle.rl_grade.specs.declared.seen.Seen.{Seen}
use Rattle.rl_grade.specs.Alike.{IsSameLog, IsSilentIn, SilentChangesNoEvent, SilentIsNotFound, SilentLeavesTheLog, without_flaws}
use Rattle.rl_grade.specs.Find.{all_seen, beside, first_find, seen_of, shows}
use Rattle.rl_grade.specs.Heard.{Heard}
use Rattle.rl_grade.specs.Hidden.{deaf_bit, is_bit_hidden, is_deafness_hidden, is_field_hidden, is_silent, is_unseen, other_bit, sound_bit, stuck_bit, ways_to}
use Rattle.rl_grade.specs.Job.{heard_by}
use Rattle.rl_grade.specs.Place.{with_flaw}
use Rattle.rl_grade.specs.Reached.{is_reached}
use Rattle.rl_grade.proofs.Finding.{none_left, passed_on}
use Rattle.rl_grade.proofs.HiddenBits.{Stands, Way, alike, unseen, unseen_closes}
use Rattle.rl_grade.proofs.HiddenFields.{OnFields, bits, its_way, reg_of, way_closes, way_first, way_in, way_resets}
use Rattle.rl_grade.proofs.HiddenFlaws.{HasBit, bare, field_there, keeps, own_reset, row_is}
use Rattle.rl_grade.proofs.Related.{Keeps, first_related, flawed}
use Rattle.rl_grade.proofs.RelatedSteps.{AreAlike, HasBackdoor, IsVolatile, heard_same, script_same}

each_bit : (w : Ways) (b : FlawedBit) (x : FieldSeen) (i : ℕ) → is_field_hidden w b x ≡ true → i < x.shape.width → is_bit_hidden w b x i ≡ true
each_bit w b x i h low =
    let n = x.shape.width in
    let here : 0 + i ≡ i = omega arith in
    subst (λ k. is_bit_hidden w b x k ≡ true) (get_or-range_with_len 0 n i 0 low ∙ here)
    (AllPass-from_list_all (is_bit_hidden w b x) (range_with_len 0 n) h i 0 (subst (λ k. i < k) (sym (length-range_with_len 0 n)) low))

module _ (c : ChipData) (l : LayoutData) where
  abbrev own : ℕ → Policy
  own n = (field_of c n).shape.policy

  abbrev moves : ℕ → Bool
  moves n = (field_of c n).shape.volatile

  abbrev ways : ℕ → Ways
  ways n = ways_to c l.rows (reg_of c n)

  abbrev way_with : (ℕ → Policy) → Option Bool → Bool → ℕ → ℕ → Way
  way_with other S deaf n i = its_way (field_of c n) i (ways n) (own n) (other n) S deaf (moves n)

  own_row : (n : ℕ) → n < length c.fields → (row_of_field (bare c l) n).policy ≡ own n
  own_row n inside = ap (λ (x : FieldRow). x.policy) (row_is c l n inside)

  -- ---- another policy

  module _ (f : ℕ) (p : Policy) where
    abbrev policies : Flaws
    policies = flaws_of (OtherPolicy f p ∷ [])

    abbrev policy_by : Bool → Policy → Policy
    policy_by k o = or_else (option_map (λ (r : PolicyRow). r.policy) (if k then Some (record { field = f; policy = p }) else None)) o

    policy_hidden : is_silent c l (OtherPolicy f p) ≡ true → (n i : ℕ) → i < (field_of c n).shape.width → (f == n) ≡ true
        → is_bit_hidden (ways n) (other_bit (field_of c n) p) (field_of c n) i ≡ true
    policy_hidden h n i low so =
        each_bit (ways n) (other_bit (field_of c n) p) (field_of c n) i
        (subst (λ k. is_field_hidden (ways k) (other_bit (field_of c k) p) (field_of c k) ≡ true) (eqb-true f n so) h) low

    other_policy : is_silent c l (OtherPolicy f p) ≡ true
        → OnFields c l policies (λ n i. f == n) (way_with (λ n. p) None false) (λ n. p) false None
    unfolding setup_of
    other_policy h = record {
      ranges = refl;
      nths = refl;
      memory = λ m i so. absurd cc;
      closes = λ n i inside low so. way_closes (field_of c n) i (ways n) (own n) p None false (moves n) (policy_hidden h n i low so);
      resets = λ n i inside low so kind.
          way_resets (field_of c n) i (ways n) (own n) p None false (moves n) (reset_of (bare c l) n kind) kind (sym (own_reset c l n kind)) (policy_hidden h n i low so);
      first = λ n i inside low so.
          way_first (field_of c n) i (ways n) (own n) p None false (moves n) (reset_of (bare c l) n 0) (sym (own_reset c l n 0)) (policy_hidden h n i low so);
      policy = λ n i inside so. ap (λ k. policy_by k (row_of_field (bare c l) n).policy) so;
      unheard = λ n i so. refl;
      stuck = λ n i inside low so. refl;
      policies = λ n i so. ap (λ k. policy_by k (row_of_field (bare c l) n).policy) so;
      values = λ n i so kind. refl;
      hears = λ n i so. refl;
      loose = λ n i inside low so. refl;
      rest = λ r b is. refl;
    }

  -- ---- another reset value

  module _ (f k v : ℕ) where
    abbrev resets : Flaws
    resets = flaws_of (OtherReset f k v ∷ [])

    other_reset : is_silent c l (OtherReset f k v) ≡ true → OnFields c l resets (λ n i. f == n) (λ n i. unseen) own false None
    unfolding setup_of
    other_reset h = record {
      ranges = refl;
      nths = refl;
      memory = λ m i so. absurd cc;
      closes = λ n i inside low so.
          unseen_closes (ways n) (own n) (own n) None false (moves n)
          (subst (λ j. is_unseen (ways j) (sound_bit (field_of c j)) ≡ true) (eqb-true f n so) h);
      resets = λ n i inside low so kind. tt;
      first = λ n i inside low so. tt;
      policy = λ n i inside so. own_row n inside;
      unheard = λ n i so. refl;
      stuck = λ n i inside low so. refl;
      policies = λ n i so. refl;
      values = λ n i so kind.
          ap (λ q. option_or (option_map (λ (r : ResetRow). r.value) (if q && (k == kind) then Some (record { field = f; kind = k; value = v }) else None))
          (value_in (bare c l).resets n kind)) so;
      hears = λ n i so. refl;
      loose = λ n i inside low so. refl;
      rest = λ r b is. refl;
    }

  -- ---- a deaf register

  module _ (q : ℕ) where
    abbrev deaf_to : Flaws
    deaf_to = flaws_of (Deaf (Reg q) ∷ [])

    is_it : (a : ℕ) → ((a == q) || false) ≡ true → a ≡ q
    is_it a so = by (a == q) refl so
      where
        by : (b : Bool) → (a == q) ≡ b → (b || false) ≡ true → a ≡ q
        by true is so = eqb-true a q is
        by false is so = absurd cc

    needs : (b test : Bool) → (not b || test) ≡ true → b ≡ true → test ≡ true
    needs true test h so = h
    needs false test h so = absurd cc

    deaf_hidden : is_deafness_hidden c l.rows q ≡ true → (n i : ℕ) → n < length c.fields → i < (field_of c n).shape.width → ((reg_of c n == q) || false) ≡ true
        → is_bit_hidden (ways n) (deaf_bit (field_of c n)) (field_of c n) i ≡ true
    deaf_hidden h n i inside low so =
        let is : reg_of c n ≡ q = is_it (reg_of c n) so in
        let all = AllPass-from_list_all (λ (f : FieldSeen). not (f.shape.reg == q) || is_field_hidden (ways_to c l.rows q) (deaf_bit f) f) c.fields h n no_field inside in
        let field = needs (reg_of c n == q) _ all (eq-eqb (reg_of c n) q is) in
        each_bit (ways n) (deaf_bit (field_of c n)) (field_of c n) i
        (subst (λ r. is_field_hidden (ways_to c l.rows r) (deaf_bit (field_of c n)) (field_of c n) ≡ true) (sym is) field) low

    deaf_register : is_deafness_hidden c l.rows q ≡ true
        → OnFields c l deaf_to (λ n i. (reg_of c n == q) || false) (way_with own None true) own true None
    unfolding setup_of
    deaf_register h = record {
      ranges = refl;
      nths = refl;
      memory = λ m i so. absurd cc;
      closes = λ n i inside low so. way_closes (field_of c n) i (ways n) (own n) (own n) None true (moves n) (deaf_hidden h n i inside low so);
      resets = λ n i inside low so kind.
          way_resets (field_of c n) i (ways n) (own n) (own n) None true (moves n) (reset_of (bare c l) n kind) kind (sym (own_reset c l n kind))
          (deaf_hidden h n i inside low so);
      first = λ n i inside low so.
          way_first (field_of c n) i (ways n) (own n) (own n) None true (moves n) (reset_of (bare c l) n 0) (sym (own_reset c l n 0)) (deaf_hidden h n i inside low so);
      policy = λ n i inside so. own_row n inside;
      unheard = λ n i so. so;
      stuck = λ n i inside low so. refl;
      policies = λ n i so. refl;
      values = λ n i so kind. refl;
      hears = λ n i so. so;
      loose = λ n i inside low so. refl;
      rest = λ r b is. refl;
    }

  -- ---- a deaf memory

  writable_row : (ms : List MemRow) (first m : ℕ) → (get_or (mem_rows first ms) m no_mem).writable ≡ option_map_or (λ (x : MemRow). x.writable) (slice_get ms m) false
  writable_row [] first m = refl
  writable_row (x ∷ ms) first zero = refl
  writable_row (x ∷ ms) first (suc m) = writable_row ms (first + x.size) m

  module _ (q : ℕ) where
    abbrev deaf_memory : Flaws
    deaf_memory = flaws_of (Deaf (Mem q) ∷ [])

    closed : (a b : Bool) → (not a || not b) ≡ true → b ≡ true → a ≡ false
    closed false b h so = refl
    closed true true h so = absurd cc
    closed true false h so = absurd cc

    deaf_one : is_silent c l (Deaf (Mem q)) ≡ true → OnFields c l deaf_memory (λ n i. false) (λ n i. alike) own false None
    unfolding setup_of
    deaf_one h = record {
      ranges = refl;
      nths = refl;
      memory = λ m i so reached.
          let is : m ≡ q = is_it q m so in
          writable_row c.mems 0 m
          ∙ subst (λ k. is_writable c k ≡ false) (sym is)
          (closed (is_writable c q) (is_reached l.rows (Mem q) true) h (subst (λ k. is_reached l.rows (Mem k) true ≡ true) is reached));
      closes = λ n i inside low so. absurd cc;
      resets = λ n i inside low so kind. absurd cc;
      first = λ n i inside low so. absurd cc;
      policy = λ n i inside so. absurd cc;
      unheard = λ n i so. absurd cc;
      stuck = λ n i inside low so. absurd cc;
      policies = λ n i so. refl;
      values = λ n i so kind. refl;
      hears = λ n i so. refl;
      loose = λ n i inside low so. refl;
      rest = λ r b is. refl;
    }

  -- ---- a stuck bit

  module _ (sound : IsSound c) (f j : ℕ) (v : Bool) (there : f < length c.fields) (within : j < (field_of c f).shape.width) where
    abbrev stuck_flaws : Flaws
    stuck_flaws = flaws_of (Stuck f j v ∷ [])

    abbrev row : FieldRow
    row = row_of_field (bare c l) f

    abbrev named : (r b : ℕ) → Bool
    named r b = row.reg == r && (row.lsb + j == b)

    abbrev touches : (n i : ℕ) → Bool
    touches n i = f == n && (j == i)

    stuck_by : (k : Bool) → option_map (λ (s : StuckRow). s.value) (if k then Some (record { field = f; bit = j; value = v }) else None) ≡ (if k then Some v else None)
    stuck_by true = refl
    stuck_by false = refl

    stuck_is : (r b : ℕ) → stuck_at (flawed (bare c l) stuck_flaws) r b ≡ (if named r b then Some v else None)
    stuck_is r b = stuck_by (named r b)

    both_true : (a b : Bool) → a ≡ true → b ≡ true → (a && b) ≡ true
    both_true true b p q = q
    both_true false b p q = absurd cc

    has_bit : (n i : ℕ) → n < length c.fields → i < (field_of c n).shape.width → HasBit c n (reg_of c n) ((field_of c n).shape.lsb + i)
    has_bit n i inside low =
        let x = (field_of c n).shape in
        record {
          inside = inside;
          reg = refl;
          covers = both_true (nat_le x.lsb (x.lsb + i)) (nat_lt (x.lsb + i) (x.lsb + x.width)) (le-leb x.lsb (x.lsb + i) (omega arith))
              (lt-ltb (x.lsb + i) (x.lsb + x.width) (omega (arith, low)));
        }

    -- where the bit stands
    named_at : (r b : ℕ) → named r b ≡ true → (reg_of c f ≡ r) × ((field_of c f).shape.lsb + j ≡ b)
    named_at r b so =
        let parts = and_parts (row.reg == r) (row.lsb + j == b) so in
        let is = row_is c l f there in
        (sym (ap (λ (x : FieldRow). x.reg) is) ∙ eqb-true row.reg r parts.0, sym (ap (λ (x : FieldRow). x.lsb + j) is) ∙ eqb-true (row.lsb + j) b parts.1)

    named_there : named (reg_of c f) ((field_of c f).shape.lsb + j) ≡ true
    named_there =
        let is = row_is c l f there in
        both_true (row.reg == reg_of c f) _ (eq-eqb row.reg (reg_of c f) (ap (λ (x : FieldRow). x.reg) is))
        (eq-eqb (row.lsb + j) ((field_of c f).shape.lsb + j) (ap (λ (x : FieldRow). x.lsb + j) is))

    named_touches : (n i : ℕ) → n < length c.fields → i < (field_of c n).shape.width → named (reg_of c n) ((field_of c n).shape.lsb + i) ≡ true → touches n i ≡ true
    named_touches n i inside low so =
        let at = named_at (reg_of c n) ((field_of c n).shape.lsb + i) so in
        let mine = has_bit f j there within in
        let its = has_bit n i inside low in
        let one : f ≡ n = apart_fields c f n ((field_of c n).shape.lsb + i) sound there inside at.0
        (subst (λ b. is_within (field_of c f).shape.lsb (field_of c f).shape.width b ≡ true) at.1 mine.covers) its.covers in
        let bit : j ≡ i = same_bit n i one at.1 in
        both_true (f == n) (j == i) (eq-eqb f n one) (eq-eqb j i bit)
      where
        same_bit : (n i : ℕ) → f ≡ n → (field_of c f).shape.lsb + j ≡ (field_of c n).shape.lsb + i → j ≡ i
        same_bit n i one at =
            let lsb : (field_of c f).shape.lsb ≡ (field_of c n).shape.lsb = ap (λ k. (field_of c k).shape.lsb) one in
            omega (arith, at, lsb)

    never : (k t : Bool) → (k ≡ true → t ≡ true) → t ≡ false → k ≡ false
    never false t h so = refl
    never true t h so = let both : true ≡ false = sym (h refl) ∙ so in absurd cc

    stuck_hidden : is_silent c l (Stuck f j v) ≡ true → (n i : ℕ) → touches n i ≡ true
        → is_bit_hidden (ways n) (stuck_bit (field_of c n) v) (field_of c n) i ≡ true
    stuck_hidden h n i so =
        let parts = and_parts (f == n) (j == i) so in
        subst (λ b. is_bit_hidden (ways n) (stuck_bit (field_of c n) v) (field_of c n) b ≡ true) (eqb-true j i parts.1)
        (subst (λ k. is_bit_hidden (ways k) (stuck_bit (field_of c k) v) (field_of c k) j ≡ true) (eqb-true f n parts.0) h)

    stuck_there : (n i : ℕ) → touches n i ≡ true → stuck_at (flawed (bare c l) stuck_flaws) (reg_of c n) ((field_of c n).shape.lsb + i) ≡ Some v
    stuck_there n i so =
        let parts = and_parts (f == n) (j == i) so in
        subst (λ b. stuck_at (flawed (bare c l) stuck_flaws) (reg_of c n) ((field_of c n).shape.lsb + b) ≡ Some v) (eqb-true j i parts.1)
        (subst (λ k. stuck_at (flawed (bare c l) stuck_flaws) (reg_of c k) ((field_of c k).shape.lsb + j) ≡ Some v) (eqb-true f n parts.0)
        (stuck_is (reg_of c f) ((field_of c f).shape.lsb + j) ∙ ap (λ k. if k then Some v else None) named_there))

    none_named : (r b : ℕ) → named r b ≡ false → stuck_at (flawed (bare c l) stuck_flaws) r b ≡ None
    none_named r b so = stuck_is r b ∙ ap (λ k. if k then Some v else None) so

    found_named : (r b : ℕ) → field_at (bare c l) r b ≡ None → named r b ≡ true → ⊥
    found_named r b none so =
        let at = named_at r b so in
        let mine = has_bit f j there within in
        let here : HasBit c f r b = record {
          inside = there;
          reg = at.0;
          covers = subst (λ k. is_within (field_of c f).shape.lsb (field_of c f).shape.width k ≡ true) at.1 mine.covers;
        } in
        let both : None ≡ Some f = sym none ∙ field_there c l r b f sound here in absurd cc

    stuck_one : is_silent c l (Stuck f j v) ≡ true → OnFields c l stuck_flaws touches (way_with own (Some v) false) own false (Some v)
    unfolding setup_of
    stuck_one h = record {
      ranges = refl;
      nths = refl;
      memory = λ m i so. absurd cc;
      closes = λ n i inside low so. way_closes (field_of c n) i (ways n) (own n) (own n) (Some v) false (moves n) (stuck_hidden h n i so);
      resets = λ n i inside low so kind.
          way_resets (field_of c n) i (ways n) (own n) (own n) (Some v) false (moves n) (reset_of (bare c l) n kind) kind (sym (own_reset c l n kind)) (stuck_hidden h n i so);
      first = λ n i inside low so.
          way_first (field_of c n) i (ways n) (own n) (own n) (Some v) false (moves n) (reset_of (bare c l) n 0) (sym (own_reset c l n 0)) (stuck_hidden h n i so);
      policy = λ n i inside so. own_row n inside;
      unheard = λ n i so. refl;
      stuck = λ n i inside low so. stuck_there n i so;
      policies = λ n i so. refl;
      values = λ n i so kind. refl;
      hears = λ n i so. refl;
      loose = λ n i inside low so.
          none_named (reg_of c n) ((field_of c n).shape.lsb + i)
          (never (named (reg_of c n) ((field_of c n).shape.lsb + i)) (touches n i) (named_touches n i inside low) so);
      rest = λ r b is. none_named r b (false_from_ne_true (named r b) (found_named r b is));
    }

-- ---- what is heard

pub width_is : (c : ChipData) (f : ℕ) → f < length c.fields → width_of c f ≡ (field_of c f).shape.width
width_is c f inside = ap (λ o. unwrap_or (option_map (λ (s : FieldSeen). s.shape.width) o) 0) (slice_get-get_or c.fields f no_field inside)

-- what is said of worlds that are related, whatever the relation
abbrev Says : DescData → Flaw → List Standing → (World → World → Type 0) → Type 1
Says d flaw adapters P =
    (R : ℕ → ℕ → Bool → Bool → Bool → Bool → Type 0) → Keeps (bare d.chip d.layout) (flaws_of (flaw ∷ [])) R (HasBackdoor d.chip) (IsVolatile d.chip)
    → (w v : World) → AreAlike d.chip (bare d.chip d.layout) (flaws_of (flaw ∷ [])) R w v → P w v

by_relation : (d : DescData) (flaw : Flaw) (adapters : List Standing) (P : World → World → Type 0) → Says d flaw adapters P
    → (R : ℕ → ℕ → Bool → Bool → Bool → Bool → Type 0) → Keeps (bare d.chip d.layout) (flaws_of (flaw ∷ [])) R (HasBackdoor d.chip) (IsVolatile d.chip)
    → P (first_world (without_flaws d) adapters) (first_world (with_flaw d flaw) adapters)
unfolding setup_of
by_relation d flaw adapters P says R keeps =
    let t = bare d.chip d.layout in
    let g = flaws_of (flaw ∷ []) in
    says R keeps (first_world (without_flaws d) adapters) (first_world (with_flaw d flaw) adapters)
    (record {
      chip = refl;
      model = refl;
      adapters = refl;
      devices = first_related t g R (HasBackdoor d.chip) (IsVolatile d.chip) keeps (locations_of d.chip);
    })

on_fields : (d : DescData) (flaw : Flaw) (adapters : List Standing) (P : World → World → Type 0) → Says d flaw adapters P → IsSound d.chip
    → (touched : ℕ → ℕ → Bool) (chosen : ℕ → ℕ → Way) (other : ℕ → Policy) (deaf : Bool) (S : Option Bool)
    → OnFields d.chip d.layout (flaws_of (flaw ∷ [])) touched chosen other deaf S
    → P (first_world (without_flaws d) adapters) (first_world (with_flaw d flaw) adapters)
on_fields d flaw adapters P says sound touched chosen other deaf S f =
    let c = d.chip in
    let l = d.layout in
    let g = flaws_of (flaw ∷ []) in
    let way = λ (r b : ℕ). way_in c l g touched chosen other deaf S f (field_at (bare c l) r b) b in
    by_relation d flaw adapters P says (λ r b. Stands (way r b)) (keeps c l g way sound (bits c l g touched chosen other deaf S f))

-- what related worlds come to holds of the first ones with a hidden flaw and without it
first_ones : (d : DescData) (flaw : Flaw) (adapters : List Standing) (P : World → World → Type 0) → Says d flaw adapters P → IsSilentIn d flaw
    → P (first_world (without_flaws d) adapters) (first_world (with_flaw d flaw) adapters)
first_ones d (Stuck f j v) adapters P says h =
    let c = d.chip in
    let within : j < (field_of c f).shape.width = subst (λ w. j < w) (width_is c f h.one.0) h.one.1 in
    on_fields d (Stuck f j v) adapters P says h.sound _ _ _ false (Some v) (stuck_one c d.layout h.sound f j v h.one.0 within h.silent)
first_ones d (OtherPolicy f p) adapters P says h =
    on_fields d (OtherPolicy f p) adapters P says h.sound _ _ _ false None (other_policy d.chip d.layout f p h.silent)
first_ones d (OtherReset f k v) adapters P says h =
    on_fields d (OtherReset f k v) adapters P says h.sound _ _ _ false None (other_reset d.chip d.layout f k v h.silent)
first_ones d (Deaf (Reg q)) adapters P says h =
    on_fields d (Deaf (Reg q)) adapters P says h.sound _ _ _ true None (deaf_register d.chip d.layout q h.silent)
first_ones d (Deaf (Mem q)) adapters P says h =
    on_fields d (Deaf (Mem q)) adapters P says h.sound _ _ _ false None (deaf_one d.chip d.layout q h.silent)
first_ones d (ErrorRange port from to) adapters P says h = let no : false ≡ true = h.silent in absurd cc
first_ones d (ErrorNth nth) adapters P says h = let no : false ≡ true = h.silent in absurd cc

pub changes_no_event : SilentChangesNoEvent
changes_no_event d flaw adapters tasks h =
    first_ones d flaw adapters (λ w v. heard_by v tasks ≡ heard_by w tasks)
    (λ R keeps w v alike. heard_same d.chip (bare d.chip d.layout) (flaws_of (flaw ∷ [])) R keeps tasks w v alike) h

pub leaves_the_log : SilentLeavesTheLog
leaves_the_log d flaw script adapters h =
    first_ones d flaw adapters (λ w v. IsSameLog (script_from 1 no_counts w (lines_of script)) (script_from 1 no_counts v (lines_of script)))
    (λ R keeps w v alike. script_same d.chip (bare d.chip d.layout) (flaws_of (flaw ∷ [])) R keeps (lines_of script) 1 no_counts w v alike) h

-- ---- and so nothing is found

pub quiet : (s : Seen) → shows (beside s s) ≡ false
quiet s = ap (λ n. not (n == 0) || (s.error && not s.error)) none ∙ by s.error
  where
    none : bit_and s.differ (bit_xor s.differ s.differ) ≡ 0
    none = let most = and_le_r s.differ 0 in ap (bit_and s.differ) (xor_self s.differ) ∙ omega (arith, most)

    by : (e : Bool) → (not (0 == 0) || (e && not e)) ≡ false
    by true = refl
    by false = refl

pub none_more : (heard : List Heard) → first_find (all_seen heard) heard ≡ None
none_more [] = none_left []
none_more (h ∷ heard) = passed_on (all_seen (h ∷ heard)) h heard (quiet (seen_of h.told.event)) ∙ none_more heard

pub not_found : SilentIsNotFound
not_found d flaw adapters tasks h =
    let base = heard_by (first_world (without_flaws d) adapters) tasks in
    ap (first_find (all_seen base)) (changes_no_event d flaw adapters tasks h) ∙ none_more base
