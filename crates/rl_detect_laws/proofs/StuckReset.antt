-- A stuck bit after a HARD reset: it is believed as the description says, and the first check of its register finds it otherwise.
use Rattle.std.proofs.Common.{◌≡◌, ◌≢◌, ℕ, ◌+◌, ◌-◌, ◌*◌, ◌<◌, Bool, [], ◌∷◌, length, Some, refl, sym, ap, ◌∙◌, subst, inr, arith}
use Rattle.std.specs.Prelude.{slice_index}
use Rattle.std.proofs.lemmas.List.{length-replicate}
use Rattle.std.proofs.lemmas.List.FromFn.{get_or-map-range_with_len, length-map-range_with_len}
use Rattle.rl_policy.specs.Bits.{bit}
use Rattle.rl_bus.specs.declared.table.StuckRow.{StuckRow}
use Rattle.rl_bus.specs.Setup.{Setup, field_at, stuck_at, or_else}
use Rattle.rl_bus.specs.State.{State, reset_bit, reg_reset, reset_by}
use Rattle.rl_model.specs.Rows.{FieldSeen, ChipData}
use Rattle.rl_model.specs.Chip.{value_for}
use Rattle.rl_model.specs.Fields.{first_of, fields_of, size_of}
use Rattle.rl_map.specs.Layout.{LayoutData}
use Rattle.rl_map.specs.Tables.{setup_of}
use Rattle.rl_split.specs.Step.{Register}
use Rattle.rl_mirror.specs.Mirror.{mirrored_of}
use Rattle.rl_mirror.specs.Prediction.{after_reset}
use Rattle.rl_mirror.proofs.FieldLemmas.{field_list}
use Rattle.rl_access.specs.declared.event.Event.{Event}
use Rattle.rl_access.specs.declared.event.Op.{Op}
use Rattle.rl_access.specs.declared.event.Op.TheVariants as op
use Rattle.rl_access.specs.Call.{Scene, IsDone, Performs}
use Rattle.rl_access.specs.Model.{ModelData, IsModel}
use Rattle.rl_access.specs.Operation.{reg_of}
use Rattle.rl_seq.specs.declared.sequence.Sequence.TheVariants.{HwReset}
use Rattle.rl_seq.specs.Sequences.{walk}
use Rattle.rl_plain.specs.Agree.{believed}
use Rattle.rl_detect_laws.specs.Devices.{IsSetUp}
use Rattle.rl_detect_laws.specs.Resets.{IsNamedBy}
use Rattle.rl_detect_laws.specs.Stuck.{stuck_bit, bit_of, HasStuckBit, StuckResetIsNamed}
use Rattle.rl_detect_laws.proofs.AccessTest.{Agreeing, check_agrees}
use Rattle.rl_detect_laws.proofs.Bashing.{IsStuckSetup, Holding}
use Rattle.rl_detect_laws.proofs.BitBash.{IsBit, named_by, the_bit, stuck_there, stuck_setup}
use Rattle.rl_detect_laws.proofs.Comes.{come_found}
use Rattle.rl_detect_laws.proofs.HwReset.{IsOtherCheck, IsOwnCheck, comes, reset_setup, believed_again, reset_to}
use Rattle.rl_detect_laws.proofs.StuckBit.{held_bit}
use Rattle.rl_detect_laws.proofs.Wrong.{described_bit}

-- ---- the reset

-- the register still holds the bit
held_again : (t : Setup) (d : State) (reg b : ℕ) (v : Bool) → d.setup ≡ t → stuck_at t reg b ≡ Some v → b < 64 → reg < length d.bits
    → bit (slice_index (reset_by d 0).bits reg) b ≡ v
unfolding reset_by
held_again t d reg b v at stuck low inside =
    let f = λ (k : ℕ). reset_bit d.setup 0 (field_at d.setup reg k) k (bit (slice_index d.bits reg) k) in
    ap (λ x. bit x b) (get_or-map-range_with_len (reg_reset d 0) 0 (length d.bits) reg reg 0 inside (omega arith)) ∙ held_bit d.setup reg b f low
    ∙ ap (λ o. or_else o (f b)) (ap (λ (u : Setup). stuck_at u reg b) at ∙ stuck)

set_up_again : (c : ChipData) (t : Setup) (d : State) → IsSetUp c t d → IsSetUp c t (reset_by d 0)
unfolding reset_by
set_up_again c t d is = record {
  setup = reset_setup d ∙ is.setup;
  beats = λ p a. refl;
  bits = length-map-range_with_len (reg_reset d 0) 0 (length d.bits) ∙ is.bits;
  marks = length-replicate (length d.marks) 0 ∙ is.marks;
}

reset_leaves : (s new : Scene) (e : Event) (d : State) (stuck : StuckRow) → IsModel s.model → s.device ≡ Some d → HasStuckBit s.model.chip s.model.layout d stuck
    → stuck.field < length s.model.chip.fields → bit_of s.model.chip stuck < 64 → reg_of s.model.chip stuck.field < length s.model.chip.regs → IsDone s new (op.Reset 0) 0 e
    → Holding s.model.chip s.model.layout (setup_of s.model.chip s.model.layout (stuck_bit stuck)) (reg_of s.model.chip stuck.field) (bit_of s.model.chip stuck) stuck.value new
reset_leaves s new e d stuck ok told has inside low reg_in done =
    let m = s.model in
    let reg = reg_of m.chip stuck.field in
    let t = setup_of m.chip m.layout (stuck_bit stuck) in
    record {
      device = reset_by d 0;
      scene_is = reset_to s new e d ok told done;
      set_up = set_up_again m.chip t d has.set_up;
      here = held_again t d reg (bit_of m.chip stuck) stuck.value has.setup (stuck_there m.chip m.layout stuck inside) low
          (subst (λ n. reg < n) (sym has.bits) reg_in);
    }

-- ---- the checks

other_stays : (c : ChipData) (l : LayoutData) (t : Setup) (reg b : ℕ) (v : Bool) (kept : Register) → IsStuckSetup c l t reg b v → (s new : Scene) (o : Op) (e : Event)
    → IsOtherCheck c l reg o → Agreeing c l t reg b v kept s → Performs s new o e → Agreeing c l t reg b v kept new
other_stays c l t reg b v kept is s new o e other h performs =
    check_agrees c l t reg b v kept other.checked other.map is other.numbers other.other s new e h (subst (λ o. Performs s new o e) other.is performs)

own_named : (c : ChipData) (l : LayoutData) (t : Setup) (field b i : ℕ) (v : Bool) (kept : Register)
    → IsBit c field (reg_of c field) (field - first_of c (reg_of c field)) b i → IsStuckSetup c l t (reg_of c field) b v → stuck_at t (reg_of c field) b ≡ Some v
    → bit kept.bits b ≢ v → (s new : Scene) (o : Op) (e : Event) → IsOwnCheck c l (reg_of c field) o → Agreeing c l t (reg_of c field) b v kept s
    → Performs s new o e → IsNamedBy c field e
own_named c l t field b i v kept bit_is is stuck apart s new o e own h performs =
    let reg = reg_of c field in
    named_by c l t field reg (field - first_of c reg) b i v s new own.map own.place e bit_is is stuck h.holding refl refl own.numbers
    (own.granted s.model h.holding.chip h.holding.layout) (subst (λ o. Performs s new o e) own.is performs)
    (λ same. apart (ap (λ x. bit x b) h.as_before.bits ∙ same))

-- ---- the law

pub stuck_reset_is_named : StuckResetIsNamed
stuck_reset_is_named s new d block [] stuck place ok told has compared other v run = absurd run
stuck_reset_is_named s new d block (x ∷ events) stuck place ok told has compared other v (mid, first, rest) =
    let c = s.model.chip in
    let l = s.model.layout in
    let field = stuck.field in
    let reg = reg_of c field in
    let k = field - first_of c reg in
    let b = bit_of c stuck in
    let t = setup_of c l (stuck_bit stuck) in
    let own = the_bit c stuck ok.chip compared in
    let is = stuck_setup c l stuck ok.chip compared in
    let after = reset_leaves s mid x.event d stuck ok told has compared.field_in own.low own.reg_in first.performs in
    let kept = believed c mid.model.mirror reg in
    let list = field_list c reg ok.chip own.reg_in in
    let m = mirrored_of s.model.mirror reg in
    let described : bit (after_reset (fields_of c reg) 0 m) b ≡ bit other.described stuck.bit =
    subst (λ (f : FieldSeen). value_for 0 f.resets ≡ Some other.described → stuck.bit < f.shape.width
    → bit (after_reset (fields_of c reg) 0 m) (f.shape.lsb + stuck.bit) ≡ bit other.described stuck.bit) own.field_is
    (λ says low. described_bit (8 * size_of c reg) (fields_of c reg) k other.described m stuck.bit list own.inside says low) other.says compared.bit_in in
    let believed_so : bit kept.bits b ≡ bit other.described stuck.bit =
    ap (λ (y : ModelData). bit (mirrored_of y.mirror reg) b) first.performs.model
    ∙ ap (λ y. bit y b) (believed_again c s.model.mirror reg (subst (λ n. reg < n) (sym ok.mirror.registers) own.reg_in)) ∙ described in
    inr (come_found (IsOtherCheck c l reg) (IsOwnCheck c l reg) (Agreeing c l t reg b stuck.value kept) (IsNamedBy c field)
    (other_stays c l t reg b stuck.value kept is)
    (own_named c l t field b stuck.bit stuck.value kept own is (stuck_there c l stuck compared.field_in) (λ same. other.other (sym believed_so ∙ same)))
    (walk HwReset c l block) mid new events (comes s.model block reg place ok v)
    (record { holding = after; as_before = record { bits = refl; marks = λ k inside. refl } }) rest)
