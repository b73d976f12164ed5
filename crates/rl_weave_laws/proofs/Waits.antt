-- A register while words of other accesses go between those of its own, over any device.
use Rattle.std.proofs.Common.{◌≡◌, inl, inr, ℕ, ◌<◌, Bool, true, false, List, [], ◌∷◌, length}
use Rattle.std.proofs.Common.{Option, None, Some, refl, sym, ap, ◌∙◌, subst}
use Rattle.std.specs.Prelude.{IfSome, IfNone}
use Rattle.std.proofs.lemmas.Bool.{cases_eq}
use Rattle.std.proofs.lemmas.List.{length-set, get_or-set_other}
use Rattle.rl_model.specs.Rows.{ChipData}
use Rattle.rl_model.specs.Chip.{IsSound}
use Rattle.rl_map.specs.Layout.{LayoutData, place_at}
use Rattle.rl_mirror.specs.Mirror.{MirrorData, IsMirrorOf}
use Rattle.rl_mirror.specs.Prediction.{predict_read, predict_write}
use Rattle.rl_access.specs.declared.event.Event.{Event}
use Rattle.rl_access.specs.declared.trace.TraceItem.{TraceItem}
use Rattle.rl_access.specs.Call.{Scene}
use Rattle.rl_access.specs.Model.{ModelData, IsModel}
use Rattle.rl_access.specs.Observed.{implied, reg_in as reg_in_item}
use Rattle.rl_access.specs.Rules.{every_field}
use Rattle.rl_access.specs.Tally.{is_bus_error}
use Rattle.rl_plain.proofs.Registers.{other_marks}
use Rattle.rl_weave.specs.Access.{no_woven, woven_at}
use Rattle.rl_weave.specs.Weave.{WeaveData, IsWeave, going_on, stepped}
use Rattle.rl_weave.proofs.Endings.{reg_in}
use Rattle.rl_weave.proofs.Weaves.{at_open, reg_kept, weave_stepped}
use Rattle.rl_weave_laws.specs.Half.{IsOpen}
use Rattle.rl_weave_laws.specs.AnyDevice.{IsBegun, AreBegun, IsWordTaken}
use Rattle.rl_weave_laws.specs.AnyDevice.{KeepsRegister, NoneCompletes, BusErrorKeepsRegister}
use Rattle.rl_weave_laws.specs.Runs.{Turn, RunsTo}
use Rattle.rl_weave_laws.proofs.Moves.{half_granted, regs_differ}
use Rattle.rl_weave_laws.proofs.AnyWords.{each_word_is_taken}

keeps_same : (c : ChipData) (reg : ℕ) (old new : MirrorData) → new ≡ old → KeepsRegister c reg old new
keeps_same c reg old new is = subst (KeepsRegister c reg old) (sym is) (record { mirrored = refl; desired = refl; marks = λ k low. refl })

keeps_both : (c : ChipData) (reg : ℕ) (a b d : MirrorData) → KeepsRegister c reg a b → KeepsRegister c reg b d → KeepsRegister c reg a d
keeps_both c reg a b d p q = record {
  mirrored = q.mirrored ∙ p.mirrored;
  desired = q.desired ∙ p.desired;
  marks = λ k low. q.marks k low ∙ p.marks k low;
}

-- a prediction of another register leaves it
write_other : (c : ChipData) (reg q value fields : ℕ) (m : MirrorData) → IsSound c → IsMirrorOf c m → q < length c.regs → (q ≡ reg → ⊥)
    → KeepsRegister c q m (predict_write c reg value fields m)
unfolding predict_write
write_other c reg q value fields m sound built low other = record {
  mirrored = get_or-set_other m.mirrored reg q _ 0 other;
  desired = get_or-set_other m.desired reg q _ 0 other;
  marks = λ k within. sym (other_marks c reg q fields k m.spent sound low other built.marks within);
}

read_other : (c : ChipData) (reg q read fields : ℕ) (m : MirrorData) → (q ≡ reg → ⊥) → KeepsRegister c q m (predict_read c reg read fields m)
unfolding predict_read
read_other c reg q read fields m other = record {
  mirrored = get_or-set_other m.mirrored reg q _ 0 other;
  desired = get_or-set_other m.desired reg q _ 0 other;
  marks = λ k within. refl;
}

implied_other : (c : ChipData) (l : LayoutData) (place : ℕ) (value : Option ℕ) (items : List TraceItem) (q : ℕ) (m : MirrorData) → IsSound c → IsMirrorOf c m
    → q < length c.regs → (q ≡ reg_in_item (place_at l place).item → ⊥) → KeepsRegister c q m (implied c l place value items m)
implied_other c l place None items q m sound built low other = read_other c (reg_in_item (place_at l place).item) q _ every_field m other
implied_other c l place (Some value) items q m sound built low other = write_other c (reg_in_item (place_at l place).item) q value every_field m sound built low other

-- by how a step ended
kept_by : (c : ChipData) (q : ℕ) (old new : MirrorData) (end : Option Event) (whole : Event → MirrorData) → IfNone end (new ≡ old)
    → IfSome end (λ e. is_bus_error e.end ≡ true → new ≡ old) → IfSome end (λ e. is_bus_error e.end ≡ false → new ≡ whole e)
    → ((e : Event) → KeepsRegister c q old (whole e)) → KeepsRegister c q old new
kept_by c q old new None whole middle failed done other = keeps_same c q old new middle
kept_by c q old new (Some e) whole middle failed done other = by (is_bus_error e.end) refl
  where
    by : (t : Bool) → is_bus_error e.end ≡ t → KeepsRegister c q old new
    by true is = keeps_same c q old new (failed is)
    by false is = subst (KeepsRegister c q old) (sym (done is)) (other e)

not_completed : (old new : MirrorData) (end : Option Event) → IfNone end (new ≡ old)
    → IfSome end (λ e. is_bus_error e.end ≡ true → new ≡ old) → IfSome end (λ e. is_bus_error e.end ≡ true) → new ≡ old
not_completed old new None middle failed none = middle
not_completed old new (Some e) middle failed none = failed none

-- one word of any access
word_keeps : (s next : Scene) (w : WeaveData) (t : Turn) (i : ℕ) → IsModel s.model → IsWeave w → IsOpen w t.which → IsBegun s.model (woven_at w.accesses t.which)
    → IsWordTaken s next w t.which t.step → i < length w.accesses → (woven_at w.accesses i).access.reg < length s.model.chip.regs
    → (t.which ≡ i → IfSome t.step.end (λ e. is_bus_error e.end ≡ true))
    → KeepsRegister s.model.chip (woven_at w.accesses i).access.reg s.model.mirror next.model.mirror
word_keeps s next w t i model ok here mine taken inside low none =
    let c = s.model.chip in
    let l = s.model.layout in
    let q = (woven_at w.accesses i).access.reg in
    let v = woven_at w.accesses t.which in
    elim (cases_eq t.which i) [
      | inl same ↦ keeps_same c q s.model.mirror next.model.mirror (not_completed _ _ t.step.end taken.middle taken.failed (none same))
      | inr apart ↦
          let at = half_granted s.model v mine.granted in
          let other : q ≡ reg_in_item (place_at l v.place).item → ⊥ = λ e.
          regs_differ w.accesses t.which i ok.apart (at_open w t.which ok here).inside inside apart
          (sym (ap reg_in_item at.there.item_is) ∙ sym e) in
          kept_by c q s.model.mirror next.model.mirror t.step.end (λ e. implied c l v.place v.access.value e.trace s.model.mirror) taken.middle taken.failed
          taken.whole (λ e. implied_other c l v.place v.access.value e.trace q s.model.mirror model.chip model.mirror low other)
    ]

waits : (turns : List Turn) (s new : Scene) (w left : WeaveData) (i : ℕ) → IsWeave w → AreBegun s.model w → RunsTo w s turns left new
    → i < length w.accesses → (woven_at w.accesses i).access.reg < length s.model.chip.regs → NoneCompletes i turns
    → KeepsRegister s.model.chip (woven_at w.accesses i).access.reg s.model.mirror new.model.mirror
waits [] s new w left i ok begun run inside low none =
    keeps_same s.model.chip (woven_at w.accesses i).access.reg s.model.mirror new.model.mirror (ap (λ (x : Scene). x.model.mirror) run.1)
waits (t ∷ turns) s new w left i ok begun run inside low none =
    let next = run.0 in
    let c = s.model.chip in
    let v = woven_at w.accesses t.which in
    let later = stepped w t.which t.step.item in
    let reg = (woven_at w.accesses i).access.reg in
    let taken = each_word_is_taken s next w t.which t.step run.1 ok run.2 begun run.3 in
    let here = word_keeps s next w t i run.1 ok run.2 (begun.each t.which run.2) taken inside low none.0 in
    let chip : next.model.chip ≡ c = ap (λ (x : ModelData). x.chip) run.3.sent.model in
    let same : (woven_at later.accesses i).access.reg ≡ reg =
    reg_kept w.accesses t.which (going_on v t.step.item) i no_woven (at_open w t.which ok run.2).inside refl inside in
    let inside_later : i < length later.accesses =
    subst (λ n. i < n) (sym (length-set w.accesses t.which (going_on v t.step.item))) inside in
    let low_later : (woven_at later.accesses i).access.reg < length next.model.chip.regs =
    subst (λ n. n < length next.model.chip.regs) (sym same) (subst (λ (x : ChipData). reg < length x.regs) (sym chip) low) in
    let rest = waits turns next new later left i (weave_stepped w t.which t.step.item ok run.2) taken.begun run.4 inside_later low_later none.1 in
    let more : KeepsRegister c reg next.model.mirror new.model.mirror =
    subst (λ x. KeepsRegister x reg next.model.mirror new.model.mirror) chip
    (subst (λ n. KeepsRegister next.model.chip n next.model.mirror new.model.mirror) same rest) in
    keeps_both c reg s.model.mirror next.model.mirror new.model.mirror here more

pub bus_error_keeps_register : BusErrorKeepsRegister
bus_error_keeps_register s new w left turns i ok begun run open_now none =
    let v = woven_at w.accesses i in
    waits turns s new w left i ok begun run (at_open w i ok open_now).inside
    (reg_in s.model v.access.reg v.access.map v.access.value (begun.each i open_now).numbers) none
