-- A deaf register in the access test: what is written there is believed, and the check by the backdoor finds what it kept.
use Rattle.std.proofs.Common.{◌≡◌, ℕ, ◌-◌, ◌*◌, ◌^◌, ◌<◌, ◌≤◌, Bool, true, false, not, ◌&&◌, List, length}
use Rattle.std.proofs.Common.{Option, Some, Ok, Err, MatchResult, refl, sym, ap, ◌∙◌, subst, inr, arith}
use Rattle.std.specs.Prelude.{slice_index}
use Rattle.std.specs.Option.{option_map_or}
use Rattle.std.proofs.Math.Pow.{pow_mono}
use Rattle.std.proofs.lemmas.List.{get_or-set_other, length-set}
use Rattle.rl_policy.proofs.BitLemmas.{bit-and, bit-not, bit-ones}
use Rattle.rl_policy.specs.Bits.{bit}
use Rattle.rl_policy.specs.Table.{value_read}
use Rattle.rl_bus.specs.declared.table.Cell.TheVariants as cell
use Rattle.rl_bus.specs.Setup.{Setup}
use Rattle.rl_bus.specs.State.{poked}
use Rattle.rl_model.specs.Rows.{FieldSeen, ChipData}
use Rattle.rl_model.specs.Chip.{IsSound as IsChip}
use Rattle.rl_model.specs.Fields.{fields_of, policy_in, size_of, place_at}
use Rattle.rl_model.specs.declared.rows.Item.TheVariants.{Reg}
use Rattle.rl_map.specs.Layout.{LayoutData}
use Rattle.rl_split.specs.Step.{Register, every}
use Rattle.rl_mirror.specs.Fields.{owned}
use Rattle.rl_mirror.specs.Mirror.{MirrorData, IsMirrorOf, mirrored_of, marks_in}
use Rattle.rl_mirror.specs.Prediction.{predict_read, predict_raw, shown}
use Rattle.rl_mirror.proofs.ReachLemmas.{raw_reach}
use Rattle.rl_mirror.proofs.WordLemmas.{bit-word_by_field}
use Rattle.rl_access.specs.declared.event.End.TheVariants as end
use Rattle.rl_access.specs.declared.event.Event.{Event}
use Rattle.rl_access.specs.declared.event.Op.{Op}
use Rattle.rl_access.specs.declared.event.Op.TheVariants as op
use Rattle.rl_access.specs.Call.{Scene, IsDone, IsRefused, Performs}
use Rattle.rl_access.specs.Model.{ModelData, IsModel}
use Rattle.rl_access.specs.Operation.{HasNumbers}
use Rattle.rl_access.specs.Rules.{Grant, grant, every_field, back_value, back_written}
use Rattle.rl_access.proofs.Bytes.{bytes_bits}
use Rattle.rl_plain.specs.Agree.{believed}
use Rattle.rl_plain.specs.OneStep.{Step, write_step, read_step}
use Rattle.rl_plain.proofs.Agreement.{IsSame, other_same}
use Rattle.rl_plain.proofs.Answered.{done_of}
use Rattle.rl_plain.proofs.Backdoor.{alone_by, peeked_is, raw_other}
use Rattle.rl_plain.proofs.Followed.{FollowsStep}
use Rattle.rl_plain.proofs.Kept.{IsKept, model_with, raw_built, read_kept}
use Rattle.rl_seq.proofs.Choosing.{size_most, turned_below}
use Rattle.rl_seq.specs.Choice.{turned_round}
use Rattle.rl_detect_laws.proofs.Bashing.{IsStuckSetup, Holding, unmarked_bits, write_done, check_done}
use Rattle.rl_detect_laws.proofs.Checks.{read_other, from_own}

-- ---- what stands

-- the register is believed as it was, while other registers are accessed
pub record Agreeing (c : ChipData) (l : LayoutData) (t : Setup) (reg b : ℕ) (v : Bool) (kept : Register) (s : Scene) : Type 0 where
  pub holding : Holding c l t reg b v s
  pub as_before : IsSame c reg kept (believed c s.model.mirror reg)

further : (c : ChipData) (reg : ℕ) (x y z : Register) → IsSame c reg x y → IsSame c reg y z → IsSame c reg x z
further c reg x y z h k = record { bits = h.bits ∙ k.bits; marks = λ j inside. h.marks j inside ∙ k.marks j inside }

of_others : (c : ChipData) (l : LayoutData) (t : Setup) (reg b : ℕ) (v : Bool) (kept : Register) (s new : Scene) (n : ℕ) (step : Step) (r : Register)
    → Agreeing c l t reg b v kept s → Holding c l t reg b v new → reg < length c.regs → (reg ≡ n → ⊥) → FollowsStep c n s.model.mirror new.model.mirror r step
    → Agreeing c l t reg b v kept new
of_others c l t reg b v kept s new n step r h stands inside other follows =
    let w = h.holding in
    record {
      holding = stands;
      as_before = further c reg kept (believed c s.model.mirror reg) (believed c new.model.mirror reg) h.as_before
          (other_same c n reg s.model.mirror new.model.mirror r step (subst IsChip w.chip w.model.chip) inside other
          (subst (λ (x : ChipData). IsMirrorOf x s.model.mirror) w.chip w.model.mirror) follows);
    }

-- ---- over the bus, of other registers

-- refused or done
by_grant : (c : ChipData) (l : LayoutData) (t : Setup) (reg b : ℕ) (v : Bool) (kept : Register) (s new : Scene) (o : Op) (e : Event) (g : Grant) → grant s.model o ≡ g
    → Agreeing c l t reg b v kept s → ((place : ℕ) → grant s.model o ≡ Ok place → Agreeing c l t reg b v kept new)
    → MatchResult g (λ place. IsDone s new o place e) (λ why. IsRefused s new o why e) → Agreeing c l t reg b v kept new
by_grant c l t reg b v kept s new o e (Ok place) granted h done is = done place granted
by_grant c l t reg b v kept s new o e (Err why) granted h done refused = subst (Agreeing c l t reg b v kept) (sym refused.unchanged) h

pub write_agrees : (c : ChipData) (l : LayoutData) (t : Setup) (reg b : ℕ) (v : Bool) (kept : Register) (n : ℕ) (map : Option ℕ) (value : ℕ) → IsStuckSetup c l t reg b v
    → HasNumbers c (length l.maps) (op.Write n map value) → (reg ≡ n → ⊥) → (s new : Scene) (e : Event) → Agreeing c l t reg b v kept s
    → Performs s new (op.Write n map value) e → Agreeing c l t reg b v kept new
write_agrees c l t reg b v kept n map value is numbers other s new e h performs =
    by_grant c l t reg b v kept s new (op.Write n map value) e (grant s.model (op.Write n map value)) refl h
    (λ place granted.
    let w = write_done c l s new t reg b v n map value place e is h.holding numbers granted performs in
    of_others c l t reg b v kept s new n (write_step every value) (believed c s.model.mirror n) h w.stands is.reg_in other w.predicted) performs

pub check_agrees : (c : ChipData) (l : LayoutData) (t : Setup) (reg b : ℕ) (v : Bool) (kept : Register) (n : ℕ) (map : Option ℕ) → IsStuckSetup c l t reg b v
    → HasNumbers c (length l.maps) (op.Check n map) → (reg ≡ n → ⊥) → (s new : Scene) (e : Event) → Agreeing c l t reg b v kept s
    → Performs s new (op.Check n map) e → Agreeing c l t reg b v kept new
check_agrees c l t reg b v kept n map is numbers other s new e h performs =
    by_grant c l t reg b v kept s new (op.Check n map) e (grant s.model (op.Check n map)) refl h
    (λ place granted.
    let w = check_done c l s new t reg b v n map place e is (inr (λ same. other (sym same))) h.holding numbers granted performs in
    of_others c l t reg b v kept s new n (read_step every) (unmarked_bits w.bits) h w.stands is.reg_in other w.predicted) performs

-- ---- by the backdoor, of other registers

deposit_stays : (s new : Scene) (t : Setup) (reg b : ℕ) (v : Bool) (q x : ℕ) (mirror : MirrorData) → (h : Holding s.model.chip s.model.layout t reg b v s)
    → IsKept s.model.chip mirror → new.device ≡ Some (poked h.device (cell.Reg q) x) → new.model ≡ record s.model { mirror = mirror } → (reg ≡ q → ⊥)
    → Holding s.model.chip s.model.layout t reg b v new
unfolding poked
deposit_stays s new t reg b v q x mirror h kept goes is other =
    let first : ModelData = record s.model { mirror = mirror } in
    let ok : IsModel first = model_with s.model mirror s.model.gathered h.model kept h.model.predictor in
    record {
      device = poked h.device (cell.Reg q) x;
      scene_is = record {
        model = subst IsModel (sym is) ok;
        chip = ap (λ (m : ModelData). m.chip) is;
        layout = ap (λ (m : ModelData). m.layout) is;
        told = goes;
      };
      set_up = record { setup = h.setup; beats = h.beats; bits = length-set h.device.bits q _ ∙ h.bits; marks = h.marks };
      here = ap (λ n. bit n b) (get_or-set_other h.device.bits q reg _ 0 other) ∙ h.here;
    }

pub raw_spent : (c : ChipData) (q value : ℕ) (m : MirrorData) → (predict_raw c q value m).spent ≡ m.spent
unfolding predict_raw
raw_spent c q value m = refl

read_spent : (c : ChipData) (q value : ℕ) (m : MirrorData) → (predict_read c q value every_field m).spent ≡ m.spent
unfolding predict_read
read_spent c q value m = refl

-- the same bits of this register, and the same marks
still_same : (c : ChipData) (reg : ℕ) (old new : MirrorData) → mirrored_of new reg ≡ mirrored_of old reg → new.spent ≡ old.spent → IsSame c reg (believed c old reg) (believed c new reg)
still_same c reg old new bits marks = record { bits = sym bits; marks = λ k inside. ap (λ xs. marks_in c xs reg k) (sym marks) }

back_write_own : (s new : Scene) (t : Setup) (reg b : ℕ) (v : Bool) (kept : Register) (q value place : ℕ) (e : Event) → Agreeing s.model.chip s.model.layout t reg b v kept s
    → q < length s.model.chip.regs → (reg ≡ q → ⊥) → IsDone s new (op.BackWrite q value) place e → Agreeing s.model.chip s.model.layout t reg b v kept new
back_write_own s new t reg b v kept q value place e h inside other done =
    let m = s.model in
    let c = m.chip in
    let w = h.holding in
    let by = alone_by s new (op.BackWrite q value) e place w.device done w.told refl in
    let written = back_written m q value done.sampled in
    let sound : IsKept c (predict_raw c q written m.mirror) = record {
      built = raw_built c q written m.mirror w.model.chip inside w.model.mirror;
      reach = raw_reach c q written m.mirror inside w.model.mirror w.model.reach;
    } in
    record {
      holding = deposit_stays s new t reg b v q _ _ w sound by.told by.model other;
      as_before = further c reg kept (believed c m.mirror reg) (believed c new.model.mirror reg) h.as_before
          (subst (λ (y : ModelData). IsSame c reg (believed c m.mirror reg) (believed c y.mirror reg)) (sym by.model)
          (still_same c reg m.mirror (predict_raw c q written m.mirror) (raw_other c q written reg m.mirror other) (raw_spent c q written m.mirror)));
    }

back_check_own : (s new : Scene) (t : Setup) (reg b : ℕ) (v : Bool) (kept : Register) (q place : ℕ) (e : Event) → Agreeing s.model.chip s.model.layout t reg b v kept s
    → q < length s.model.chip.regs → (reg ≡ q → ⊥) → IsDone s new (op.BackCheck q) place e → Agreeing s.model.chip s.model.layout t reg b v kept new
back_check_own s new t reg b v kept q place e h inside other done =
    let m = s.model in
    let c = m.chip in
    let w = h.holding in
    let by = alone_by s new (op.BackCheck q) e place w.device done w.told refl in
    let read = back_value m q done.sampled in
    let sound = read_kept c q read every_field m.mirror w.model.chip inside (record { built = w.model.mirror; reach = w.model.reach }) in
    record {
      holding = deposit_stays s new t reg b v q _ _ w sound by.told by.model other;
      as_before = further c reg kept (believed c m.mirror reg) (believed c new.model.mirror reg) h.as_before
          (subst (λ (y : ModelData). IsSame c reg (believed c m.mirror reg) (believed c y.mirror reg)) (sym by.model)
          (still_same c reg m.mirror (predict_read c q read every_field m.mirror) (read_other c q read reg m.mirror other) (read_spent c q read m.mirror)));
    }

pub back_write_agrees : (c : ChipData) (l : LayoutData) (t : Setup) (reg b : ℕ) (v : Bool) (kept : Register) (q value : ℕ) → q < length c.regs → (reg ≡ q → ⊥)
    → (s new : Scene) (e : Event) → Agreeing c l t reg b v kept s → Performs s new (op.BackWrite q value) e → Agreeing c l t reg b v kept new
back_write_agrees c l t reg b v kept q value inside other s new e h performs =
    by_grant c l t reg b v kept s new (op.BackWrite q value) e (grant s.model (op.BackWrite q value)) refl h
    (λ place granted.
    from_own c l s.model (λ x y. q < length x.regs → Agreeing x y t reg b v kept s → Agreeing x y t reg b v kept new) h.holding.chip h.holding.layout
    (λ inside h. back_write_own s new t reg b v kept q value place e h inside other (done_of s new (op.BackWrite q value) place e granted performs)) inside h) performs

pub back_check_agrees : (c : ChipData) (l : LayoutData) (t : Setup) (reg b : ℕ) (v : Bool) (kept : Register) (q : ℕ) → q < length c.regs → (reg ≡ q → ⊥)
    → (s new : Scene) (e : Event) → Agreeing c l t reg b v kept s → Performs s new (op.BackCheck q) e → Agreeing c l t reg b v kept new
back_check_agrees c l t reg b v kept q inside other s new e h performs =
    by_grant c l t reg b v kept s new (op.BackCheck q) e (grant s.model (op.BackCheck q)) refl h
    (λ place granted.
    from_own c l s.model (λ x y. q < length x.regs → Agreeing x y t reg b v kept s → Agreeing x y t reg b v kept new) h.holding.chip h.holding.layout
    (λ inside h. back_check_own s new t reg b v kept q place e h inside other (done_of s new (op.BackCheck q) place e granted performs)) inside h) performs

-- ---- by the backdoor, of this one

-- the check reads what the register holds
pub record IsBackChecked (c : ChipData) (reg k b : ℕ) (v : Bool) (s : Scene) (e : Event) : Type 0 where
  pub read : ℕ
  pub ends : e.end ≡ end.Value read
  pub checks : e.op ≡ op.BackCheck reg
  pub bits : bit read b ≡ value_read (policy_in (fields_of c reg) k) v

pub shown_there : (fs : List FieldSeen) (k b bits : ℕ) → b < 64 → place_at fs b ≡ Some k → bit (shown fs (owned fs bits)) b ≡ value_read (policy_in fs k) (bit bits b)
unfolding shown
shown_there fs k b bits low at =
    bit-word_by_field fs (λ k b. value_read (policy_in fs k) (bit (owned fs bits) b)) b low
    ∙ ap (λ o. option_map_or (λ k. value_read (policy_in fs k) (bit (owned fs bits) b)) o false) at
    ∙ ap (value_read (policy_in fs k)) (bit-word_by_field fs (λ k b. bit bits b) b low ∙ ap (λ o. option_map_or (λ k. bit bits b) o false) at)

pub back_checked : (c : ChipData) (l : LayoutData) (t : Setup) (reg k b : ℕ) (v : Bool) (s new : Scene) (place : ℕ) (e : Event) → Holding c l t reg b v s
    → b < 64 → place_at (fields_of c reg) b ≡ Some k → grant s.model (op.BackCheck reg) ≡ Ok place → Performs s new (op.BackCheck reg) e
    → IsBackChecked c reg k b v s e
back_checked c l t reg k b v s new place e h low at granted performs =
    from_own c l s.model (λ x y. Holding x y t reg b v s → place_at (fields_of x reg) b ≡ Some k → IsBackChecked x reg k b v s e) h.chip h.layout
    (λ h at.
    let m = s.model in
    let done = done_of s new (op.BackCheck reg) place e granted performs in
    let sampled : done.sampled ≡ slice_index h.device.bits reg = done.found h.device h.told ∙ peeked_is h.device reg in
    record {
      read = back_value m reg done.sampled;
      ends = ap (λ (y : Event). y.end) done.event_is;
      checks = ap (λ (y : Event). y.op) done.event_is;
      bits = shown_there (fields_of m.chip reg) k b done.sampled low at ∙ ap (λ n. value_read (policy_in (fields_of m.chip reg) k) (bit n b)) sampled
          ∙ ap (value_read (policy_in (fields_of m.chip reg) k)) h.here;
    }) h at

-- ---- the word that is written

and_true : (b : Bool) → (b && true) ≡ b
and_true true = refl
and_true false = refl

pub turned_there : (m : ModelData) (reg b : ℕ) → IsModel m → reg < length m.chip.regs → b < 8 * size_of m.chip reg
    → bit (turned_round m.chip (Reg reg) (mirrored_of m.mirror reg)) b ≡ not (bit (mirrored_of m.mirror reg) b)
turned_there m reg b ok inside low =
    let n = size_of m.chip reg in
    let v = mirrored_of m.mirror reg in
    let few : n ≤ 8 = size_most m.chip reg ok.chip inside in
    let below : 8 * n ≤ 64 = omega (arith, few) in
    let most : 2 ^ (8 * n) ≤ 2 ^ 64 = pow_mono below in
    let fits : v < 2 ^ 64 = omega (arith, (ok.mirror.mirrored reg inside).fits, bytes_bits n, most) in
    ap (λ x. bit x b) (sym (turned_below v (8 * n) fits (omega (arith, few))))
    ∙ bit-and (18446744073709551615 - v) (2 ^ (8 * n) - 1) b
    ∙ ap (λ x. bit (18446744073709551615 - v) b && x) (bit-ones (8 * n) b low)
    ∙ and_true (bit (18446744073709551615 - v) b)
    ∙ bit-not v b fits (omega (arith, low, few))
