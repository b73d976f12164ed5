-- A flaw whose changes no check compares leaves each compared field of its register, and its first world has them as believed.
use Rattle.std.proofs.Common.{◌≡◌, ℕ, ◌+◌, ◌-◌, ◌<◌, Bool, true, false, not, ◌&&◌, ◌||◌, ◌==◌, if◌then◌else◌, List, [], ◌∷◌, length, map, Option, Some, None, option_map, refl, sym, ap, subst, ◌∙◌, arith}
use Rattle.std.specs.Prelude.{IsSome, nat_le, nat_lt}
use Rattle.std.specs.List.{range_with_len}
use Rattle.std.specs.Option.{option_map_or, option_or}
use Rattle.std.proofs.lemmas.Bool.{and_parts, eq-eqb, eqb-true, false_from_ne_true, le-leb, lt-ltb}
use Rattle.std.proofs.lemmas.List.{get_or-replicate, length-map}
use Rattle.std.proofs.lemmas.List.FromFn.{get_or-range_with_len, length-range_with_len}
use Rattle.std.proofs.lemmas.List.Sums.{AllPass-from_list_all}
use Rattle.rl_policy.proofs.BitLemmas.{bit-zero}
use Rattle.rl_policy.specs.Bits.{bit}
use Rattle.rl_policy.specs.declared.policy.Policy.{Policy}
use Rattle.rl_policy.specs.declared.policy.Policy.TheVariants.{Ro, Rc, Rs}
use Rattle.rl_bus.specs.declared.table.FieldRow.{FieldRow}
use Rattle.rl_bus.specs.declared.table.PolicyRow.{PolicyRow}
use Rattle.rl_bus.specs.declared.table.ResetRow.{ResetRow}
use Rattle.rl_bus.specs.declared.table.StuckRow.{StuckRow}
use Rattle.rl_bus.specs.Setup.{Flaws, Setup, field_at, field_of as row_of_field, or_else, policy_of, value_in}
use Rattle.rl_bus.specs.Standing.{Standing}
use Rattle.rl_bus.specs.State.{empty_state, first_state, reset_bit, value_bit}
use Rattle.rl_model.specs.Chip.{IsSound}
use Rattle.rl_model.specs.declared.rows.Item.TheVariants as item
use Rattle.rl_model.specs.declared.rows.RegRow.{RegRow}
use Rattle.rl_model.specs.Fields.{count_of, field_in, field_of, fields_of, first_of}
use Rattle.rl_model.specs.Rows.{ChipData, FieldSeen}
use Rattle.rl_mirror.proofs.FieldLemmas.{apart_fields, length-fields_of, seated}
use Rattle.rl_mirror.specs.Compared.{is_compared}
use Rattle.rl_mirror.specs.Prediction.{blank, fresh}
use Rattle.rl_map.specs.Layout.{LayoutData}
use Rattle.rl_map.specs.Tables.{setup_of}
use Rattle.rl_access.specs.Operation.{reg_of}
use Rattle.rl_flaw.specs.declared.flaw.Flaw.{Flaw}
use Rattle.rl_flaw.specs.declared.flaw.Flaw.TheVariants.{Deaf, ErrorNth, ErrorRange, OtherPolicy, OtherReset, Stuck}
use Rattle.rl_flaw.specs.Flaws.{IsFlawOf, flaws_of, locations_of, width_of}
use Rattle.rl_desc.specs.Data.{DescData}
use Rattle.rl_session.specs.Judged.{first_world}
use Rattle.rl_grade.specs.Registers.{register_with}
use Rattle.rl_grade.specs.Together.{with_flaws}
use Rattle.rl_grade.specs.Unchecked.{are_passed, is_changed, is_passed, is_unchecked, keeps_all}
use Rattle.rl_grade.proofs.HiddenFlaws.{bare, field_there, row_is}
use Rattle.rl_grade.proofs.HiddenOnes.{width_is}
use Rattle.rl_grade.proofs.Related.{flawed}
use Rattle.rl_grade.proofs.TogetherAccess.{AreSound}
use Rattle.rl_grade.proofs.TogetherFinds.{bits_held, blank_size, first_rests}
use Rattle.rl_grade.proofs.TogetherMakeup.{IsCalm}
use Rattle.rl_grade.proofs.UncheckedAccess.{Agrees, IsDevice, IsSpared, reset_agrees}
use Rattle.rl_grade.proofs.UncheckedBeliefs.{IsComparedBit, covers_it, inside_it, number, own_field, own_reg}
use Rattle.rl_grade.proofs.UncheckedCourses.{Agreed}
use Rattle.rl_grade.proofs.UncheckedItems.{IsKeptByWrites, IsSoundBit}

-- ---- fields that are passed

-- such a field is left by the flaw, and not volatile
record IsLeft (c : ChipData) (flaw : Flaw) (n : ℕ) : Type 0 where
  unchanged : is_changed c flaw n ≡ false
  steady : (field_of c n).shape.volatile ≡ false

never : (a : Bool) → not a ≡ true → a ≡ false
never true is = cc
never false is = refl

passed_left : (compared changed volatile : Bool) → (not compared || (not changed && not volatile)) ≡ true → compared ≡ true → (changed ≡ false) × (volatile ≡ false)
passed_left true changed volatile h so =
    let parts = and_parts (not changed) (not volatile) h in (never changed parts.0, never volatile parts.1)
passed_left false changed volatile h so = absurd cc

module _ (c : ChipData) (sound : IsSound c) (flaw : Flaw) (r : ℕ) (there : r < length c.regs) (passed : are_passed c flaw r ≡ true) where
  left_in : (b k : ℕ) → IsComparedBit c r b k → IsLeft c flaw (first_of c r + k)
  left_in b k one =
      let n = first_of c r + k in
      let count = count_of c r in
      let low : k < count = subst (λ j. k < j) (length-fields_of c r sound there) (inside_it c r b k one) in
      let all = AllPass-from_list_all (is_passed c flaw) (range_with_len (first_of c r) count) passed k 0 (subst (λ j. k < j) (sym (length-range_with_len (first_of c r) count)) low) in
      let its : is_passed c flaw n ≡ true = subst (λ j. is_passed c flaw j ≡ true) (get_or-range_with_len (first_of c r) count k 0 low) all in
      let compared : is_compared (field_of c n).shape ≡ true =
      subst (λ (f : FieldSeen). is_compared f.shape ≡ true) (own_field c r b k sound there one) one.compared in
      let both = passed_left (is_compared (field_of c n).shape) (is_changed c flaw n) (field_of c n).shape.volatile its compared in
      record { unchanged = both.0; steady = both.1 }

-- ---- what a flaw leaves

-- it is of some register
abbrev IsOne : ChipData → Flaw → Type 0
IsOne c flaw = IsSome (register_with c flaw)

no_false : (a : Bool) → not a ≡ false → a ≡ true
no_false true is = refl
no_false false is = cc

mark_kept : (m l : Bool) → (m || (l && false)) ≡ m
mark_kept true l = refl
mark_kept false true = refl
mark_kept false false = refl

bit_kept : (l x : Bool) → (if l then x else x) ≡ x
bit_kept true x = refl
bit_kept false x = refl

kept_by : (p : Policy) → keeps_all p ≡ true → IsKeptByWrites (Some p)
kept_by Ro so = record { bits = λ x m w l. bit_kept l x; marks = mark_kept }
kept_by Rc so = record { bits = λ x m w l. bit_kept l x; marks = mark_kept }
kept_by Rs so = record { bits = λ x m w l. bit_kept l x; marks = mark_kept }
kept_by _ so = absurd cc

both_true : (a b : Bool) → a ≡ true → b ≡ true → (a && b) ≡ true
both_true true b p q = q
both_true false b p q = absurd cc

module _ (c : ChipData) (l : LayoutData) (sound : IsSound c) (r : ℕ) (there : r < length c.regs) where
  abbrev t : Setup
  t = bare c l

  abbrev u : Flaw → Setup
  u flaw = flawed (bare c l) (flaws_of (flaw ∷ []))

  module _ (b k : ℕ) (one : IsComparedBit c r b k) where
    abbrev n : ℕ
    n = first_of c r + k

    at_it : field_at t r b ≡ Some n
    at_it =
        field_there c l r b n sound
        (record { inside = number c r b k sound there one; reg = own_reg c r b k sound there one; covers = covers_it c r b k sound there one })

    -- a bit of another field is none of this one's
    not_named : (f j : ℕ) → f < length c.fields → j < width_of c f → (f == n) ≡ false
        → ((row_of_field t f).reg == r && ((row_of_field t f).lsb + j) == b) ≡ false
    not_named f j inside low off = false_from_ne_true _ named
      where
        named : ((row_of_field t f).reg == r && ((row_of_field t f).lsb + j) == b) ≡ true → ⊥
        named so =
            let parts = and_parts ((row_of_field t f).reg == r) (((row_of_field t f).lsb + j) == b) so in
            let row = row_is c l f inside in
            let x = (field_of c f).shape in
            let reg : x.reg ≡ r = sym (ap (λ (y : FieldRow). y.reg) row) ∙ eqb-true (row_of_field t f).reg r parts.0 in
            let bit_is : x.lsb + j ≡ b = sym (ap (λ (y : FieldRow). y.lsb + j) row) ∙ eqb-true ((row_of_field t f).lsb + j) b parts.1 in
            let within : j < x.width = subst (λ w. j < w) (width_is c f inside) low in
            let from : (nat_le x.lsb b) ≡ true = le-leb x.lsb b (omega (arith, bit_is)) in
            let to : (nat_lt b (x.lsb + x.width)) ≡ true = lt-ltb b (x.lsb + x.width) (omega (arith, bit_is, within)) in
            let same : f ≡ n = apart_fields c f n b sound inside (number c r b k sound there one) (reg ∙ sym (own_reg c r b k sound there one))
            (both_true (nat_le x.lsb b) (nat_lt b (x.lsb + x.width)) from to) (covers_it c r b k sound there one) in
            let is : (f == n) ≡ true = eq-eqb f n same in
            let clash : true ≡ false = sym is ∙ off in
            cc

    sound_bit : (flaw : Flaw) → IsFlawOf c l flaw → IsOne c flaw → is_changed c flaw n ≡ false → IsSoundBit t (flaws_of (flaw ∷ [])) r b
    unfolding setup_of
    sound_bit (Stuck f j v) is it off = record {
      low = one.low;
      policy = refl;
      loose = ap (λ a. option_map (λ (s : StuckRow). s.value) (if a then Some (record { field = f; bit = j; value = v }) else None)) (not_named f j is.0 is.1 off);
      hears = λ deaf. absurd cc;
      resets = λ kind x. refl;
    }
    sound_bit (OtherPolicy f p) is it off = record {
      low = one.low;
      policy = ap (option_map (policy_of (u (OtherPolicy f p)))) at_it
          ∙ ap (λ a. Some (or_else (option_map (λ (r : PolicyRow). r.policy) (if a then Some (record { field = f; policy = p }) else None)) (row_of_field t n).policy)) off
          ∙ sym (ap (option_map (policy_of t)) at_it);
      loose = refl;
      hears = λ deaf. absurd cc;
      resets = λ kind x. refl;
    }
    sound_bit (OtherReset f j v) is it off = record {
      low = one.low;
      policy = refl;
      loose = refl;
      hears = λ deaf. absurd cc;
      resets = λ kind x.
          ap (λ o. reset_bit (u (OtherReset f j v)) kind o b x) at_it
          ∙ ap (λ a. value_bit (option_or (option_map (λ (r : ResetRow). r.value) (if a && (j == kind) then Some (record { field = f; kind = j; value = v }) else None))
          (value_in t.resets n kind)) (b - (row_of_field t n).lsb) x) off
          ∙ sym (ap (λ o. reset_bit t kind o b x) at_it);
    }
    sound_bit (Deaf (item.Reg q)) is it off = record {
      low = one.low;
      policy = refl;
      loose = refl;
      hears = λ deaf.
          subst IsKeptByWrites
          (sym (ap (option_map (policy_of t)) at_it ∙ ap (λ (f : FieldRow). Some f.policy) (row_is c l n (number c r b k sound there one))))
          (kept_by (field_of c n).shape.policy (no_false (keeps_all (field_of c n).shape.policy) off));
      resets = λ kind x. refl;
    }
    sound_bit (Deaf (item.Mem q)) is it off = absurd cc
    sound_bit (ErrorRange port from to) is it off = absurd cc
    sound_bit (ErrorNth nth) is it off = absurd cc

    plain_bit : IsSoundBit t (flaws_of []) r b
    unfolding setup_of
    plain_bit = record { low = one.low; policy = refl; loose = refl; hears = λ deaf. absurd cc; resets = λ kind x. refl }

  steady_in : (flaw : Flaw) → are_passed c flaw r ≡ true → (b k : ℕ) → IsComparedBit c r b k → (field_in (fields_of c r) k).shape.volatile ≡ false
  steady_in flaw passed b k one =
      ap (λ (f : FieldSeen). f.shape.volatile) (own_field c r b k sound there one) ∙ (left_in c sound flaw r there passed b k one).steady

  pub spared_with : (flaw : Flaw) → IsFlawOf c l flaw → IsOne c flaw → are_passed c flaw r ≡ true → IsSpared c l (flaws_of (flaw ∷ [])) r
  spared_with flaw is it passed = record {
    there = there;
    bits = λ b k one. sound_bit b k one flaw is it (left_in c sound flaw r there passed b k one).unchanged;
    steady = steady_in flaw passed;
  }

  pub spared_without : (flaw : Flaw) → are_passed c flaw r ≡ true → IsSpared c l (flaws_of []) r
  spared_without flaw passed = record { there = there; bits = λ b k one. plain_bit b k one; steady = steady_in flaw passed }

-- ---- its register

-- the register of an unchecked flaw, and that its fields are passed
pub record IsOfRegister (c : ChipData) (flaw : Flaw) : Type 0 where
  pub reg : ℕ
  pub register : register_with c flaw ≡ Some reg
  pub passed : are_passed c flaw reg ≡ true
  pub there : reg < length c.regs

pub reg_there : (c : ChipData) (l : LayoutData) (flaw : Flaw) (r : ℕ) → IsSound c → IsFlawOf c l flaw → register_with c flaw ≡ Some r → r < length c.regs
reg_there c l (Stuck f j v) r sound is at = let same : reg_of c f ≡ r = cc in subst (λ q. q < length c.regs) same (seated c f sound is.0).reg
reg_there c l (OtherPolicy f p) r sound is at = let same : reg_of c f ≡ r = cc in subst (λ q. q < length c.regs) same (seated c f sound is).reg
reg_there c l (OtherReset f j v) r sound is at = let same : reg_of c f ≡ r = cc in subst (λ q. q < length c.regs) same (seated c f sound is.0).reg
reg_there c l (Deaf (item.Reg q)) r sound is at = let same : q ≡ r = cc in subst (λ q. q < length c.regs) same is
reg_there c l (Deaf (item.Mem q)) r sound is at = absurd cc
reg_there c l (ErrorRange port from to) r sound is at = absurd cc
reg_there c l (ErrorNth nth) r sound is at = absurd cc

pub of_register : (c : ChipData) (l : LayoutData) (flaw : Flaw) → IsSound c → IsFlawOf c l flaw → is_unchecked c flaw ≡ true → IsOfRegister c flaw
of_register c l flaw sound is unchecked = by (register_with c flaw) refl unchecked
  where
    by : (o : Option ℕ) → register_with c flaw ≡ o → option_map_or (are_passed c flaw) o false ≡ true → IsOfRegister c flaw
    by None at so = absurd cc
    by (Some r) at so = record { reg = r; register = at; passed = so; there = reg_there c l flaw r sound is at }

-- ---- the first world

module _ (d : DescData) (sound : AreSound d.chip d.layout) (flaws : List Flaw) (r : ℕ) (adapters : List Standing) where
  abbrev g : Flaws
  g = flaws_of flaws

  blank_agrees : (count : ℕ) → r < length d.chip.regs → Agrees d.chip r (empty_state (flawed (bare d.chip d.layout) g) count) (blank d.chip)
  unfolding setup_of
  blank_agrees count there = record {
    bits = λ b k one.
        ap (λ x. bit x b) (get_or-replicate (length (map (λ (x : RegRow). x.bytes) d.chip.regs)) r 0 0 (subst (λ j. r < j) (sym (length-map d.chip.regs (λ (x : RegRow). x.bytes))) there))
        ∙ sym (ap (λ x. bit x b) (get_or-replicate (length d.chip.regs) r 0 0 there));
    marks = λ b k one.
        ap (λ x. bit x b) (get_or-replicate (length (map (λ (x : RegRow). x.bytes) d.chip.regs)) r 0 0 (subst (λ j. r < j) (sym (length-map d.chip.regs (λ (x : RegRow). x.bytes))) there))
        ∙ bit-zero b
        ∙ sym (get_or-replicate (length d.chip.fields) (first_of d.chip r + k) false false (number d.chip r b k sound.chip there one));
  }

  first_device : (count : ℕ) → IsDevice d.chip d.layout g (empty_state (flawed (bare d.chip d.layout) g) count)
  unfolding setup_of
  first_device count = record { setup = refl; beats = λ p a. refl; bits = bits_held d.chip; marks = bits_held d.chip }

  pub first_agreed : IsCalm (flawed (bare d.chip d.layout) g) → IsSpared d.chip d.layout g r → Agreed d.chip d.layout g r (first_world (with_flaws d flaws) adapters)
  unfolding first_state setup_of fresh
  first_agreed calm spared = record {
    rests = first_rests d flaws adapters;
    agrees = reset_agrees d.chip d.layout sound g calm r spared 0 (empty_state (flawed (bare d.chip d.layout) g) (locations_of d.chip)) (blank d.chip)
        (first_device (locations_of d.chip)) (blank_size d.chip) (blank_agrees (locations_of d.chip) spared.there);
  }
