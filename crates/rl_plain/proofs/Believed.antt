-- What is believed of each register after an access, and after a deposit that the model takes over.
use Rattle.std.proofs.Common.{◌≡◌, ◌⊎◌, ℕ, ◌+◌, ◌^◌, ◌<◌, ◌≤◌, true, false, ◌&&◌, List, length, Option}
use Rattle.std.proofs.Common.{None, Some, option_map, Ok, Err, MatchResult, refl, sym, ap, ◌∙◌, subst, inl, inr, arith}
use Rattle.std.specs.Prelude.{slice_index, nat_le, nat_lt}
use Rattle.std.specs.Option.{option_map_or}
use Rattle.std.proofs.Math.Pow.{pow_mono}
use Rattle.std.proofs.lemmas.Bool.{cases_lt}
use Rattle.std.proofs.lemmas.Bool.Decides.{nat_tests}
use Rattle.rl_policy.specs.Bits.{bit}
use Rattle.rl_policy.specs.Table.{after_write}
use Rattle.rl_policy.specs.declared.policy.Policy.{Policy}
use Rattle.rl_policy.specs.declared.policy.Policy.TheVariants.{Rw}
use Rattle.rl_policy.proofs.BitLemmas.{bit-above, is_from_bits}
use Rattle.rl_bus.specs.State.{State, poked}
use Rattle.rl_bus.specs.declared.table.Cell.TheVariants as cell
use Rattle.rl_model.specs.Fields.{fields_of, field_in, policy_in, place_at}
use Rattle.rl_model.specs.Rows.{FieldSeen, ChipData}
use Rattle.rl_split.specs.Step.{Register, every, wstep, written_bit}
use Rattle.rl_mirror.specs.Fields.{owned}
use Rattle.rl_mirror.specs.Mirror.{mirrored_of}
use Rattle.rl_mirror.proofs.FieldLemmas.{field_list}
use Rattle.rl_mirror.proofs.PlaceLemmas.{place_is, no_place}
use Rattle.rl_mirror.proofs.WordLemmas.{owned_bit}
use Rattle.rl_access.specs.declared.event.End.TheVariants as end
use Rattle.rl_access.specs.declared.event.Event.{Event}
use Rattle.rl_access.specs.declared.event.Op.TheVariants as op
use Rattle.rl_access.specs.Call.{Scene, IsDone, IsRefused, Performs}
use Rattle.rl_access.specs.Model.{ModelData, IsModel}
use Rattle.rl_access.specs.Operation.{IsMapIn}
use Rattle.rl_access.specs.Rules.{Grant, grant}
use Rattle.rl_plain.specs.Agree.{Agree, believed}
use Rattle.rl_plain.specs.OneStep.{step_of}
use Rattle.rl_plain.specs.Believed.{AccessIsBelieved, WriteIsStored, DepositIsBelieved, IsStored}
use Rattle.rl_plain.proofs.Answered.{done_of}
use Rattle.rl_plain.proofs.EachAccess.{one_step}
use Rattle.rl_plain.proofs.Agreement.{register_in, agree_after, other_bits}
use Rattle.rl_plain.proofs.Backdoor.{raw_here, raw_other, raw_agrees, held_by}

-- ---- an access

pub access_is_believed : AccessIsBelieved
access_is_believed s new op event place reg is numbers register ok a granted performs =
    let c = s.model.chip in
    let r = believed c s.model.mirror reg in
    let n = register_in c (length s.model.layout.maps) op ok.chip is numbers in
    let same : n.reg ≡ reg = let one : Some n.reg ≡ Some reg = sym n.register ∙ register in cc in
    let inside : reg < length c.regs = subst (λ q. q < length c.regs) same n.inside in
    let st = one_step s new op event place reg a.device r is numbers register
    (record { model = ok; told = a.told; ready = a.believed_is.ready; holds = a.believed_is.holds reg inside }) granted
    (done_of s new op place event granted performs) in
    let after : Agree new = agree_after s new op event place reg ok a inside st in
    let made : after.device ≡ st.stepped.after = let both : Some after.device ≡ Some st.stepped.after = sym after.told ∙ st.stepped.told in cc in
    let within : (q : ℕ) → q < length c.regs → q < length new.model.chip.regs = λ q l. subst (λ x. q < length x) (sym (ap (λ (x : ChipData). x.regs) st.follows.chip)) l in
    record {
      agree = after;
      same = record { chip = st.follows.chip; layout = st.follows.layout };
      here = sym (after.believed_is.holds reg (within reg inside)).bits ∙ ap (λ (d : State). slice_index d.bits reg) made ∙ st.stepped.holds.bits;
      others = λ q l other.
          sym (after.believed_is.holds q (within q l)).bits
          ∙ ap (λ (d : State). slice_index d.bits q) (made ∙ st.stepped.step)
          ∙ other_bits c a.device reg q (step_of s.model op place) r (length event.trace) other
          ∙ (a.believed_is.holds q l).bits;
      ends = st.stepped.ends;
      no_error = st.stepped.no_error;
    }

-- ---- a register that is stored as it is written

within_width : (width b : ℕ) (lsb : ℕ) → lsb ≡ 0 → (nat_le lsb b && nat_lt b (lsb + width)) ≡ false → width ≤ b
within_width width b lsb zero none = by (cases_lt b width)
  where
    by : (b < width) ⊎ (width ≤ b) → width ≤ b
    by (inl low) = absurd (let on : (nat_le lsb b && nat_lt b (lsb + width)) ≡ true = grind (arith, nat_tests) in cc)
    by (inr over) = over

stored_bits : (fs : List FieldSeen) (width value : ℕ) (r : Register) → length fs ≡ 1 → (field_in fs 0).shape.lsb ≡ 0 → (field_in fs 0).shape.width ≡ width → policy_in fs 0 ≡ Rw → width ≤ 64 →
    value < 2 ^ width
    → r.bits ≡ owned fs r.bits → (wstep fs every value r).bits ≡ value
unfolding wstep
stored_bits fs width value r one lsb width_is policy small fits own =
    let most : 2 ^ width ≤ 2 ^ 64 = pow_mono small in
    sym (is_from_bits 64 value (λ b. written_bit fs every r.spent (place_at fs b) (bit r.bits b) (bit value b)) (omega arith) (λ b low. sym (by b low (place_at fs b) refl)))
  where
    by : (b : ℕ) → b < 64 → (o : Option ℕ) → place_at fs b ≡ o → written_bit fs every r.spent o (bit r.bits b) (bit value b) ≡ bit value b
    by b low None at =
        let none = no_place fs b 0 at (omega arith) in
        let over : width ≤ b = subst (λ w. w ≤ b) width_is (within_width (field_in fs 0).shape.width b (field_in fs 0).shape.lsb lsb none) in
        owned_bit fs r.bits b own low
        ∙ ap (λ (o : Option ℕ). option_map_or (λ k. bit r.bits b) o false) at
        ∙ sym (bit-above value width b fits over)
    by b low (Some k) at =
        let inside = (place_is fs b k at).0 in
        let first : k ≡ 0 = omega arith in
        ap (λ (p : Policy). after_write p (bit r.bits b) (bit value b) (r.spent k)) (ap (policy_in fs) first ∙ policy)

stored_by : (s new : Scene) (event : Event) (reg width value : ℕ) (map : Option ℕ) → reg < length s.model.chip.regs → IsMapIn (length s.model.layout.maps) map → IsStored s.model.chip reg width →
    value < 2 ^ width
    → IsModel s.model → Agree s → Performs s new (op.Write reg map value) event → event.end ≡ end.Done
    → (g : Grant) → grant s.model (op.Write reg map value) ≡ g → mirrored_of new.model.mirror reg ≡ value
stored_by s new event reg width value map inside mapped stored fits ok a performs done (Ok place) granted =
    let c = s.model.chip in
    let list = field_list c reg ok.chip inside in
    let wide : (field_in (fields_of c reg) 0).shape.lsb + (field_in (fields_of c reg) 0).shape.width ≤ 64 = omega (arith, list.inside 0 (omega (arith, stored.one)), list.most) in
    let small : width ≤ 64 = omega (arith, wide, stored.width_is) in
    (access_is_believed s new (op.Write reg map value) event place reg tt (inside, mapped) refl ok a granted performs).here
    ∙ stored_bits (fields_of c reg) width value (believed c s.model.mirror reg) stored.one stored.lsb stored.width_is stored.policy small fits (ok.mirror.mirrored reg inside).owned
stored_by s new event reg width value map inside mapped stored fits ok a performs done (Err why) refused =
    let is : IsRefused s new (op.Write reg map value) why event =
    subst (λ (g : Grant). MatchResult g (λ p. IsDone s new (op.Write reg map value) p event) (λ why. IsRefused s new (op.Write reg map value) why event)) refused performs in
    let ends : event.end ≡ end.Refused why = ap (λ (e : Event). e.end) is.event_is in
    absurd (cc)

pub write_is_stored : WriteIsStored
write_is_stored s new event reg width value map inside mapped stored fits ok a performs done =
    stored_by s new event reg width value map inside mapped stored fits ok a performs done (grant s.model (op.Write reg map value)) refl

-- ---- a deposit

pub deposit_is_believed : DepositIsBelieved
deposit_is_believed s new reg value inside ok a taken =
    let c = s.model.chip in
    let h = held_by s reg ok a inside in
    record {
      agree = raw_agrees s new a reg value ok inside (taken.device ∙ ap (option_map (λ (d : State). poked d (cell.Reg reg) value)) a.told) taken.model;
      here = ap (λ (m : ModelData). mirrored_of m.mirror reg) taken.model ∙ raw_here c reg value s.model.mirror h.within;
      others = λ q l other. ap (λ (m : ModelData). mirrored_of m.mirror q) taken.model ∙ raw_other c reg value q s.model.mirror other;
    }
