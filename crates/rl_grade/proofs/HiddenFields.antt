-- Hidden flaws by the bits of fields that they touch.
use Rattle.std.proofs.Common.{◌≡◌, ◌⊎◌, inl, inr, ℕ, ◌+◌, ◌-◌, ◌<◌, ◌≤◌, Bool, true, false, not, ◌&&◌, ◌||◌, ◌==◌, if◌then◌else◌, List, [], ◌∷◌, length}
use Rattle.std.proofs.Common.{Option, Some, None, option_map, refl, sym, ap, subst, ◌∙◌, arith}
use Rattle.std.specs.Prelude.{unwrap_or}
use Rattle.std.specs.List.{list_all}
use Rattle.std.specs.Option.{option_map_or}
use Rattle.std.proofs.lemmas.Bool.{and_parts}
use Rattle.rl_policy.proofs.BitLemmas.{bit-zero}
use Rattle.rl_policy.specs.Bits.{bit}
use Rattle.rl_policy.specs.declared.policy.Policy.{Policy}
use Rattle.rl_bus.specs.declared.table.Cell.TheVariants.{Reg, Loc}
use Rattle.rl_bus.specs.declared.table.FieldRow.{FieldRow}
use Rattle.rl_bus.specs.Setup.{Setup, Flaws, field_at, field_of as row_of_field, is_deaf, mem_of, or_else, policy_at, policy_of, reset_of, stuck_at}
use Rattle.rl_bus.specs.State.{reset_bit, value_bit}
use Rattle.rl_model.specs.declared.rows.Item.TheVariants as item
use Rattle.rl_model.specs.declared.rows.Reset.{Reset}
use Rattle.rl_model.specs.Chip.{IsSound, value_for}
use Rattle.rl_model.specs.Fields.{field_of}
use Rattle.rl_model.specs.Rows.{ChipData, FieldSeen}
use Rattle.rl_map.specs.Layout.{LayoutData}
use Rattle.rl_map.specs.Tables.{setup_of}
use Rattle.rl_grade.specs.declared.bits.FlawedBit.{FlawedBit}
use Rattle.rl_grade.specs.declared.bits.Ways.{Ways}
use Rattle.rl_grade.specs.Hidden.{first_bit, is_alike, is_bit_hidden, is_fixed, is_loose, is_same, is_unseen, may_hold, resets_alike, ways_to}
use Rattle.rl_grade.specs.Reached.{is_reached}
use Rattle.rl_grade.proofs.HiddenBits.{Closes, Way, alike, fixed, fixed_last, hidden_closes, outside, same_is, stuck_at_it, unseen, untouched, way_of}
use Rattle.rl_grade.proofs.HiddenFlaws.{Bits, FirstIs, HasBit, ResetsTo, at_field, bare, bit_of, own_reset, row_is}
use Rattle.rl_grade.proofs.Related.{flawed}

abbrev pub reg_of : ChipData → ℕ → ℕ
reg_of c n = (field_of c n).shape.reg

-- bit i of field n of a device with these flaws is one that is touched, or as in one without flaws
pub record OnFields (c : ChipData) (l : LayoutData) (g : Flaws) (touched : ℕ → ℕ → Bool) (chosen : ℕ → ℕ → Way) (other : ℕ → Policy)
    (deaf : Bool) (S : Option Bool) : Type 0 where
  pub ranges : g.ranges ≡ []
  pub nths : g.nths ≡ []
  pub memory : (m i : ℕ) → is_deaf (flawed (bare c l) g) (Loc m i) ≡ true → is_reached l.rows (item.Mem m) true ≡ true
      → (mem_of (bare c l) m).writable ≡ false
  pub closes : (n i : ℕ) → n < length c.fields → i < (field_of c n).shape.width → touched n i ≡ true
      → Closes (chosen n i) (ways_to c l.rows (reg_of c n)) deaf (field_of c n).shape.volatile (Some (field_of c n).shape.policy) (Some (other n)) S
  pub resets : (n i : ℕ) → n < length c.fields → i < (field_of c n).shape.width → touched n i ≡ true → (kind : ℕ)
      → ResetsTo (chosen n i) S (value_bit (reset_of (bare c l) n kind) i) (value_bit (reset_of (flawed (bare c l) g) n kind) i)
  pub first : (n i : ℕ) → n < length c.fields → i < (field_of c n).shape.width → touched n i ≡ true
      → FirstIs (chosen n i) S (value_bit (reset_of (bare c l) n 0) i false) (value_bit (reset_of (flawed (bare c l) g) n 0) i false)
  pub policy : (n i : ℕ) → n < length c.fields → touched n i ≡ true → policy_of (flawed (bare c l) g) n ≡ other n
  pub unheard : (n i : ℕ) → touched n i ≡ true → is_deaf (flawed (bare c l) g) (Reg (reg_of c n)) ≡ deaf
  pub stuck : (n i : ℕ) → n < length c.fields → i < (field_of c n).shape.width → touched n i ≡ true
      → stuck_at (flawed (bare c l) g) (reg_of c n) ((field_of c n).shape.lsb + i) ≡ S
  pub policies : (n i : ℕ) → touched n i ≡ false → policy_of (flawed (bare c l) g) n ≡ policy_of (bare c l) n
  pub values : (n i : ℕ) → touched n i ≡ false → (kind : ℕ) → reset_of (flawed (bare c l) g) n kind ≡ reset_of (bare c l) n kind
  pub hears : (n i : ℕ) → touched n i ≡ false → is_deaf (flawed (bare c l) g) (Reg (reg_of c n)) ≡ false
  pub loose : (n i : ℕ) → n < length c.fields → i < (field_of c n).shape.width → touched n i ≡ false
      → stuck_at (flawed (bare c l) g) (reg_of c n) ((field_of c n).shape.lsb + i) ≡ None
  pub rest : (r b : ℕ) → field_at (bare c l) r b ≡ None → stuck_at (flawed (bare c l) g) r b ≡ None

module _ (c : ChipData) (l : LayoutData) (g : Flaws) (touched : ℕ → ℕ → Bool) (chosen : ℕ → ℕ → Way) (other : ℕ → Policy) (deaf : Bool)
    (S : Option Bool) (f : OnFields c l g touched chosen other deaf S) where
  abbrev t : Setup
  t = bare c l

  abbrev u : Setup
  u = flawed (bare c l) g

  abbrev pub way_in : Option ℕ → ℕ → Way
  way_in None b = alike
  way_in (Some n) b = if touched n (b - (field_of c n).shape.lsb) then chosen n (b - (field_of c n).shape.lsb) else alike

  own_policy : (n : ℕ) → n < length c.fields → policy_of t n ≡ (field_of c n).shape.policy
  unfolding setup_of
  own_policy n inside = ap (λ (x : FieldRow). x.policy) (row_is c l n inside)

  -- ---- what is kept

  field_closes : (n i : ℕ) → n < length c.fields → i < (field_of c n).shape.width → (k : Bool) → touched n i ≡ k
      → Closes (if k then chosen n i else alike) (ways_to c l.rows (reg_of c n)) (is_deaf u (Reg (reg_of c n))) (field_of c n).shape.volatile
      (Some (policy_of t n)) (Some (policy_of u n)) (stuck_at u (reg_of c n) ((field_of c n).shape.lsb + i))
  field_closes n i inside low true so =
      let w = ways_to c l.rows (reg_of c n) in
      let v = (field_of c n).shape.volatile in
      subst (λ d. Closes (chosen n i) w d v (Some (policy_of t n)) (Some (policy_of u n)) (stuck_at u (reg_of c n) ((field_of c n).shape.lsb + i))) (sym (f.unheard n i so))
      (subst (λ p. Closes (chosen n i) w deaf v (Some p) (Some (policy_of u n)) (stuck_at u (reg_of c n) ((field_of c n).shape.lsb + i))) (sym (own_policy n inside))
      (subst (λ p. Closes (chosen n i) w deaf v (Some (field_of c n).shape.policy) (Some p) (stuck_at u (reg_of c n) ((field_of c n).shape.lsb + i))) (sym (f.policy n i inside so))
      (subst (λ s. Closes (chosen n i) w deaf v (Some (field_of c n).shape.policy) (Some (other n)) s) (sym (f.stuck n i inside low so)) (f.closes n i inside low so))))
  field_closes n i inside low false so =
      let w = ways_to c l.rows (reg_of c n) in
      let v = (field_of c n).shape.volatile in
      subst (λ d. Closes alike w d v (Some (policy_of t n)) (Some (policy_of u n)) (stuck_at u (reg_of c n) ((field_of c n).shape.lsb + i))) (sym (f.hears n i so))
      (subst (λ p. Closes alike w false v (Some (policy_of t n)) (Some p) (stuck_at u (reg_of c n) ((field_of c n).shape.lsb + i))) (sym (f.policies n i so))
      (subst (λ s. Closes alike w false v (Some (policy_of t n)) (Some (policy_of t n)) s) (sym (f.loose n i inside low so)) (untouched w v (Some (policy_of t n)))))

  bit_closes : (r b : ℕ) (o : Option ℕ) → field_at t r b ≡ o
      → Closes (way_in o b) (ways_to c l.rows r) (is_deaf u (Reg r)) (option_map_or (λ n. (field_of c n).shape.volatile) o false) (option_map (policy_of t) o)
      (option_map (policy_of u) o) (stuck_at u r b)
  bit_closes r b None is =
      subst (λ s. Closes alike (ways_to c l.rows r) (is_deaf u (Reg r)) false None None s) (sym (f.rest r b is)) (outside (ways_to c l.rows r) (is_deaf u (Reg r)) false)
  bit_closes r b (Some n) is =
      let h = at_field c l r b n is in
      let at = bit_of c n r b h in
      let i = b - (field_of c n).shape.lsb in
      subst (λ q. Closes (way_in (Some n) b) (ways_to c l.rows q) (is_deaf u (Reg q)) (field_of c n).shape.volatile (Some (policy_of t n)) (Some (policy_of u n)) (stuck_at u q b)) h.reg
      (subst (λ j. Closes (way_in (Some n) b) (ways_to c l.rows (reg_of c n)) (is_deaf u (Reg (reg_of c n))) (field_of c n).shape.volatile (Some (policy_of t n)) (Some (policy_of u n))
      (stuck_at u (reg_of c n) j)) at.0 (field_closes n i h.inside at.1 (touched n i) refl))

  -- ---- resets

  stuck_here : (r b n : ℕ) → HasBit c n r b → stuck_at u (reg_of c n) ((field_of c n).shape.lsb + (b - (field_of c n).shape.lsb)) ≡ stuck_at u r b
  stuck_here r b n h =
      ap (λ q. stuck_at u q ((field_of c n).shape.lsb + (b - (field_of c n).shape.lsb))) h.reg ∙ ap (stuck_at u r) (bit_of c n r b h).0

  field_resets : (n i kind : ℕ) → n < length c.fields → i < (field_of c n).shape.width → (k : Bool) → touched n i ≡ k
      → ResetsTo (if k then chosen n i else alike) (stuck_at u (reg_of c n) ((field_of c n).shape.lsb + i)) (value_bit (reset_of t n kind) i) (value_bit (reset_of u n kind) i)
  field_resets n i kind inside low true so =
      subst (λ s. ResetsTo (chosen n i) s (value_bit (reset_of t n kind) i) (value_bit (reset_of u n kind) i)) (sym (f.stuck n i inside low so)) (f.resets n i inside low so kind)
  field_resets n i kind inside low false so = (f.loose n i inside low so, λ x. ap (λ o. value_bit o i x) (f.values n i so kind))

  bit_resets : (r b kind : ℕ) (o : Option ℕ) → field_at t r b ≡ o → ResetsTo (way_in o b) (stuck_at u r b) (reset_bit t kind o b) (reset_bit u kind o b)
  bit_resets r b kind None is = (f.rest r b is, λ x. refl)
  bit_resets r b kind (Some n) is =
      let h = at_field c l r b n is in
      let i = b - (field_of c n).shape.lsb in
      let at : i ≡ b - (row_of_field t n).lsb = sym (ap (λ (x : FieldRow). b - x.lsb) (row_is c l n h.inside)) in
      subst (λ j. ResetsTo (way_in (Some n) b) (stuck_at u r b) (value_bit (reset_of t n kind) j) (value_bit (reset_of u n kind) j)) at
      (subst (λ s. ResetsTo (way_in (Some n) b) s (value_bit (reset_of t n kind) i) (value_bit (reset_of u n kind) i)) (stuck_here r b n h)
      (field_resets n i kind h.inside (bit_of c n r b h).1 (touched n i) refl))

  field_first : (n i : ℕ) → n < length c.fields → i < (field_of c n).shape.width → (k : Bool) → touched n i ≡ k
      → FirstIs (if k then chosen n i else alike) (stuck_at u (reg_of c n) ((field_of c n).shape.lsb + i)) (value_bit (reset_of t n 0) i false) (value_bit (reset_of u n 0) i false)
  field_first n i inside low true so =
      subst (λ s. FirstIs (chosen n i) s (value_bit (reset_of t n 0) i false) (value_bit (reset_of u n 0) i false)) (sym (f.stuck n i inside low so)) (f.first n i inside low so)
  field_first n i inside low false so = (f.loose n i inside low so, ap (λ o. value_bit o i false) (f.values n i so 0))

  bit_first : (r b : ℕ) (o : Option ℕ) → field_at t r b ≡ o → FirstIs (way_in o b) (stuck_at u r b) (reset_bit t 0 o b false) (reset_bit u 0 o b false)
  bit_first r b None is = (f.rest r b is, refl)
  bit_first r b (Some n) is =
      let h = at_field c l r b n is in
      let i = b - (field_of c n).shape.lsb in
      let at : i ≡ b - (row_of_field t n).lsb = sym (ap (λ (x : FieldRow). b - x.lsb) (row_is c l n h.inside)) in
      subst (λ j. FirstIs (way_in (Some n) b) (stuck_at u r b) (value_bit (reset_of t n 0) j false) (value_bit (reset_of u n 0) j false)) at
      (subst (λ s. FirstIs (way_in (Some n) b) s (value_bit (reset_of t n 0) i false) (value_bit (reset_of u n 0) i false)) (stuck_here r b n h)
      (field_first n i h.inside (bit_of c n r b h).1 (touched n i) refl))

  pub bits : Bits c l g (λ r b. way_in (field_at t r b) b)
  bits = record {
    ranges = f.ranges;
    nths = f.nths;
    memory = f.memory;
    closes = λ r b. bit_closes r b (field_at t r b) refl;
    resets = λ r b kind. bit_resets r b kind (field_at t r b) refl;
    first = λ r b. bit_first r b (field_at t r b) refl;
  }

-- ---- hidden bits of a field, whose reset values are its own

has_value : (test : ℕ → Bool) (rs : List Reset) (kind v : ℕ) → list_all (λ (r : Reset). test r.value) rs ≡ true → value_for kind rs ≡ Some v → test v ≡ true
has_value test [] kind v all is = absurd cc
has_value test (r ∷ rs) kind v all is =
    let parts = and_parts (test r.value) (list_all (λ (r : Reset). test r.value) rs) all in
    by (r.kind == kind) parts.0 (has_value test rs kind v parts.1) is
  where
    by : (k : Bool) → test r.value ≡ true → (value_for kind rs ≡ Some v → test v ≡ true) → (if k then Some r.value else value_for kind rs) ≡ Some v → test v ≡ true
    by true here later is = let same : r.value ≡ v = cc in subst (λ x. test x ≡ true) same here
    by false here later is = later is

module _ (x : FieldSeen) (i : ℕ) where
  reset_keeps : (o : Option ℕ) (kind : ℕ) → value_for kind x.resets ≡ o → resets_alike x i ≡ true → value_bit o i (first_bit x i) ≡ first_bit x i
  reset_keeps None kind is all = refl
  reset_keeps (Some v) kind is all = same_is (bit v i) (first_bit x i) (has_value (λ n. is_same (bit n i) (first_bit x i)) x.resets kind v all is)

  first_is : (o : Option ℕ) → value_for 0 x.resets ≡ o → value_bit o i false ≡ first_bit x i
  first_is None is = sym (bit-zero i) ∙ ap (λ o. bit (unwrap_or o 0) i) (sym is)
  first_is (Some v) is = ap (λ o. bit (unwrap_or o 0) i) (sym is)

  module _ (w : Ways) (own other : Policy) (S : Option Bool) (deaf volatile : Bool) where
    abbrev b : FlawedBit
    b = record { own = own; other = other; stuck = S; deaf = deaf; volatile = volatile }

    abbrev pub its_way : Way
    its_way = way_of (is_alike w b) (is_unseen w b) (first_bit x i)

    is_free : (s : Option Bool) (rest : Bool) → (is_loose s && rest) ≡ true → s ≡ None
    is_free None rest h = refl
    is_free (Some v) rest h = absurd cc

    holds_it : is_fixed (first_bit x i) w b ≡ true → may_hold (first_bit x i) S ≡ true
    holds_it h =
        let first = and_parts (not w.backdoor) _ h in
        let second = and_parts (not volatile) _ first.1 in
        (and_parts (may_hold (first_bit x i) S) _ second.1).0

    resets_by : (a k : Bool) (o : Option ℕ) (kind : ℕ) → is_alike w b ≡ a → is_unseen w b ≡ k → value_for kind x.resets ≡ o
        → is_bit_hidden w b x i ≡ true → ResetsTo (way_of a k (first_bit x i)) S (value_bit o i) (value_bit o i)
    resets_by true k o kind al us is h = (is_free S _ al, λ y. refl)
    resets_by false true o kind al us is h = tt
    resets_by false false o kind al us is h =
        let both = fixed_last (is_alike w b) (is_unseen w b) (is_fixed (first_bit x i) w b) (resets_alike x i) al us h in
        let kept = reset_keeps o kind is both.1 in
        (kept, stuck_at_it (first_bit x i) S (value_bit o i (first_bit x i)) (holds_it both.0) kept)

    first_by : (a k : Bool) (o : Option ℕ) → is_alike w b ≡ a → is_unseen w b ≡ k → value_for 0 x.resets ≡ o
        → is_bit_hidden w b x i ≡ true → FirstIs (way_of a k (first_bit x i)) S (value_bit o i false) (value_bit o i false)
    first_by true k o al us is h = (is_free S _ al, refl)
    first_by false true o al us is h = tt
    first_by false false o al us is h =
        let both = fixed_last (is_alike w b) (is_unseen w b) (is_fixed (first_bit x i) w b) (resets_alike x i) al us h in
        let now = first_is o is in
        (now, stuck_at_it (first_bit x i) S (value_bit o i false) (holds_it both.0) now)

    pub way_closes : is_bit_hidden w b x i ≡ true → Closes its_way w deaf volatile (Some own) (Some other) S
    way_closes h = hidden_closes w own other S deaf volatile (first_bit x i) (resets_alike x i) h

    pub way_resets : (o : Option ℕ) (kind : ℕ) → value_for kind x.resets ≡ o → is_bit_hidden w b x i ≡ true → ResetsTo its_way S (value_bit o i) (value_bit o i)
    way_resets o kind is h = resets_by (is_alike w b) (is_unseen w b) o kind refl refl is h

    pub way_first : (o : Option ℕ) → value_for 0 x.resets ≡ o → is_bit_hidden w b x i ≡ true → FirstIs its_way S (value_bit o i false) (value_bit o i false)
    way_first o is h = first_by (is_alike w b) (is_unseen w b) o refl refl is h
