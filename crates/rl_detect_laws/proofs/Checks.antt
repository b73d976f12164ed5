-- Checks of registers over a device with wrong reset values: one of another register changes neither side of this one.
use Rattle.std.proofs.Common.{◌≡◌, ℕ, ◌<◌, Bool, true, false, List, length, Option, None, Some, option_map, Ok, Err, MatchResult, if◌then◌else◌}
use Rattle.std.proofs.Common.{refl, sym, ap, ◌∙◌, subst, inl, inr, arith}
use Rattle.std.specs.Prelude.{slice_index, slice_set}
use Rattle.std.proofs.lemmas.Bool.{cases_eq}
use Rattle.std.proofs.lemmas.List.{get_or-set_same, get_or-set_other, length-set}
use Rattle.rl_policy.proofs.BitLemmas.{bit-zero}
use Rattle.rl_policy.specs.Bits.{bit}
use Rattle.rl_bus.specs.Standing.{Standing, standing_at}
use Rattle.rl_bus.specs.State.{State}
use Rattle.rl_model.specs.Rows.{ChipData}
use Rattle.rl_model.specs.Fields.{fields_of}
use Rattle.rl_map.specs.Layout.{LayoutData, place_at, port_at, words_of}
use Rattle.rl_split.specs.Law.{IsReady}
use Rattle.rl_split.specs.Step.{Register, every, ranswer}
use Rattle.rl_mirror.specs.Mirror.{MirrorData, mirrored_of}
use Rattle.rl_mirror.specs.Prediction.{predict_read}
use Rattle.rl_access.specs.declared.event.End.TheVariants as end
use Rattle.rl_access.specs.declared.event.Event.{Event}
use Rattle.rl_access.specs.declared.event.Op.{Op}
use Rattle.rl_access.specs.declared.event.Op.TheVariants as op
use Rattle.rl_access.specs.declared.predictor.Gathered.{Gathered}
use Rattle.rl_access.specs.Call.{Scene, IsDone, IsRefused, Performs}
use Rattle.rl_access.specs.Gathering.{IsPredictorOf, no_words, gathered_at}
use Rattle.rl_access.specs.Items.{failed_at, items_of, state_after_all, port_for, adapter_for}
use Rattle.rl_access.specs.Model.{ModelData, IsModel}
use Rattle.rl_access.specs.Operation.{HasNumbers}
use Rattle.rl_access.specs.Rules.{Grant, grant, sends, forgotten, forgetting, every_field, Outcome, or_error, found_by, device_after as device_then}
use Rattle.rl_plain.specs.OneStep.{Meets, device_after, read_step}
use Rattle.rl_plain.proofs.Agreement.{other_bits}
use Rattle.rl_plain.proofs.Answered.{done_of}
use Rattle.rl_plain.proofs.EachAccess.{access_is_step}
use Rattle.rl_plain.proofs.Kept.{model_with, read_kept}
use Rattle.rl_detect_laws.proofs.Forgetting.{without, items_without, all_without}

-- ---- the model after a check

none_there : (l : LayoutData) (gathered : List Gathered) (place : ℕ) → IsPredictorOf l gathered → IsPredictorOf l (slice_set gathered place no_words)
none_there l gathered place built = record {
  count = length-set gathered place no_words ∙ built.count;
  shorter = λ q low. elim (cases_eq q place) [
    | inl same ↦
        let inside : place < length gathered = subst (λ n. n < length gathered) same (subst (λ n. q < n) (sym built.count) low) in
        let short : 0 < length (words_of l q 0) = omega (arith, built.shorter q low) in
        let here : gathered_at (slice_set gathered place no_words) q ≡ no_words =
        ap (gathered_at (slice_set gathered place no_words)) same ∙ get_or-set_same gathered place no_words no_words inside in
        subst (λ (g : Gathered). length g.words < length (words_of l q 0)) (sym here) short
    | inr other ↦
        subst (λ (g : Gathered). length g.words < length (words_of l q 0))
        (sym (get_or-set_other gathered place q no_words no_words other)) (built.shorter q low)
  ];
}

pub forgotten_built : (b : Bool) (l : LayoutData) (gathered : List Gathered) (place : ℕ) → IsPredictorOf l gathered
    → IsPredictorOf l (if b then slice_set gathered place no_words else gathered)
forgotten_built true l gathered place built = none_there l gathered place built
forgotten_built false l gathered place built = built

-- it is a model of the same chip and layout, and what is believed of other registers stays
record IsChecked (m new : ModelData) (reg : ℕ) : Type 0 where
  ok : IsModel new
  chip : new.chip ≡ m.chip
  layout : new.layout ≡ m.layout
  others : (q : ℕ) → (q ≡ reg → ⊥) → mirrored_of new.mirror q ≡ mirrored_of m.mirror q

pub read_other : (c : ChipData) (reg value q : ℕ) (m : MirrorData) → (q ≡ reg → ⊥) → mirrored_of (predict_read c reg value every_field m) q ≡ mirrored_of m q
unfolding predict_read
read_other c reg value q m other = get_or-set_other m.mirrored reg q _ 0 other

pub entered : (m : ModelData) (place : ℕ) → IsModel m → IsModel (forgetting m place)
entered m place ok =
    model_with m m.mirror (forgotten m.layout place m.gathered) ok (record { built = ok.mirror; reach = ok.reach })
    (forgotten_built (port_at m.layout (place_at m.layout place).port).explicit m.layout m.gathered place ok.predictor)

-- the outcome of a check that read this value
abbrev read_so : ModelData → (reg place value differ : ℕ) → Outcome
read_so m reg place value differ = record {
  end = end.Value value;
  model = record (forgetting m place) { mirror = predict_read m.chip reg value every_field m.mirror };
  differ = differ;
}

after_check : (m : ModelData) (reg place value differ : ℕ) (failed : Option ℕ) → IsModel m → reg < length m.chip.regs
    → IsChecked m (or_error failed (forgetting m place) (read_so m reg place value differ)).model reg
after_check m reg place value differ None ok inside =
    let first = entered m place ok in
    let kept = read_kept m.chip reg value every_field m.mirror ok.chip inside (record { built = ok.mirror; reach = ok.reach }) in
    record {
      ok = model_with m (predict_read m.chip reg value every_field m.mirror) (forgotten m.layout place m.gathered) ok kept first.predictor;
      chip = refl;
      layout = refl;
      others = λ q other. read_other m.chip reg value q m.mirror other;
    }
after_check m reg place value differ (Some k) ok inside = record { ok = entered m place ok; chip = refl; layout = refl; others = λ q other. refl }

-- ---- what stands between checks

-- a model of this chip and layout, and a device that tells its state
pub record IsSceneOf (c : ChipData) (l : LayoutData) (s : Scene) (device : State) : Type 0 where
  pub model : IsModel s.model
  pub chip : s.model.chip ≡ c
  pub layout : s.model.layout ≡ l
  pub told : s.device ≡ Some device

-- the device without its wrong reset values is one without flaws, and has no mark; this register has these bits, and is
-- believed to have others
pub record Holding (c : ChipData) (l : LayoutData) (reg bits mirrored : ℕ) (s : Scene) : Type 0 where
  pub device : State
  pub scene_is : IsSceneOf c l s device
  pub open scene_is use *
  pub ready : IsReady c l (without device)
  pub unmarked : (q : ℕ) → q < length c.regs → slice_index device.marks q ≡ 0
  pub bits_are : slice_index device.bits reg ≡ bits
  pub believed : mirrored_of s.model.mirror reg ≡ mirrored

-- ---- a check over the device without them

abbrev pub over : Scene → State → Scene
over s d = record s { device = Some d }

pub some_is : {A : Type 0} {x y : A} → Some x ≡ Some y → x ≡ y
some_is e = cc

-- an operation is done in the same way over another device that answers the same
pub done_over : (s new : Scene) (o : Op) (place : ℕ) (e : Event) (d x y : State) → s.device ≡ Some d → found_by x o ≡ found_by d o
    → ((a : Standing) → items_of a x (port_for s.model.layout place) (sends s.model o place) ≡ items_of a d (port_for s.model.layout place) (sends s.model o place))
    → device_then s.model o (found_by d o) e.trace x ≡ y → IsDone s new o place e → IsDone (over s x) (over new y) o place e
done_over s new o place e d x y told found same after done =
    let adapter = standing_at s.adapters (adapter_for s.model.layout place) in
    record {
      sampled = done.sampled;
      items = done.items;
      adapters = done.adapters;
      asked = done.asked;
      event_is = done.event_is;
      model = done.model;
      found = λ z is. done.found d told ∙ sym found ∙ ap (λ (w : State). found_by w o) (some_is is);
      answers = λ z is. done.answers d told ∙ sym (same adapter)
          ∙ ap (λ (w : State). items_of adapter w (port_for s.model.layout place) (sends s.model o place)) (some_is is);
      goes = ap Some (sym after ∙ ap (λ n. device_then s.model o n e.trace x) (sym (done.found d told)));
    }

without_done : (s new : Scene) (reg place : ℕ) (map : Option ℕ) (e : Event) (d : State) → s.device ≡ Some d → IsDone s new (op.Check reg map) place e
    → IsDone (over s (without d)) (over new (without (state_after_all d e.trace))) (op.Check reg map) place e
without_done s new reg place map e d told done =
    done_over s new (op.Check reg map) place e d (without d) (without (state_after_all d e.trace)) told refl
    (λ a. items_without a d (port_for s.model.layout place) (sends s.model (op.Check reg map) place)) (all_without d e.trace) done

-- a register without marks
abbrev unmarked_register : State → ℕ → Register
unmarked_register d reg = record { bits = slice_index d.bits reg; spent = λ k. false }

-- the check is a step of its register
record IsCheckStep (s new : Scene) (reg : ℕ) (e : Event) (d : State) : Type 0 where
  after : State
  scene_is : IsSceneOf s.model.chip s.model.layout new after
  bits : (q : ℕ) → (q ≡ reg → ⊥) → slice_index after.bits q ≡ slice_index d.bits q
  marks : after.marks ≡ d.marks
  ready : IsReady s.model.chip s.model.layout (without after)
  ends : e.end ≡ end.Value (ranswer (fields_of s.model.chip reg) every (unmarked_register d reg))
  believed : (q : ℕ) → (q ≡ reg → ⊥) → mirrored_of new.model.mirror q ≡ mirrored_of s.model.mirror q

check_done : (s new : Scene) (reg place : ℕ) (map : Option ℕ) (e : Event) (bits mirrored q : ℕ) → HasNumbers s.model.chip (length s.model.layout.maps) (op.Check reg map)
    → (h : Holding s.model.chip s.model.layout q bits mirrored s) → grant s.model (op.Check reg map) ≡ Ok place → IsDone s new (op.Check reg map) place e
    → IsCheckStep s new reg e h.device
check_done s new reg place map e bits mirrored q numbers h granted done =
    let m = s.model in
    let c = m.chip in
    let d = h.device in
    let after = state_after_all d e.trace in
    let r = unmarked_register d reg in
    let before : Scene = over s (without d) in
    let later : Scene = over new (without after) in
    let meets : Meets before (without d) reg r = record {
      model = h.model;
      told = refl;
      ready = h.ready;
      holds = record { bits = refl; marks = λ b k low at. ap (λ n. bit n b) (h.unmarked reg numbers.0) ∙ bit-zero b };
    } in
    let performs : Performs before later (op.Check reg map) e =
    subst (λ (g : Grant). MatchResult g (λ place. IsDone before later (op.Check reg map) place e) (λ why. IsRefused before later (op.Check reg map) why e))
    (sym granted) (without_done s new reg place map e d h.told done) in
    let st = access_is_step before later (op.Check reg map) e place reg (without d) r tt numbers refl meets granted performs in
    let same : without after ≡ st.after = some_is st.told in
    let stepped : without after ≡ device_after c (without d) reg (read_step every) r (length e.trace) = same ∙ st.step in
    let checked = subst (λ (x : ModelData). IsChecked m x reg) (sym done.model) (after_check m reg place _ _ (failed_at e.trace) h.model numbers.0) in
    record {
      after = after;
      scene_is = record {
        model = checked.ok;
        chip = checked.chip;
        layout = checked.layout;
        told = done.goes ∙ ap (option_map (λ (x : State). state_after_all x e.trace)) h.told;
      };
      bits = λ q other. ap (λ (x : State). slice_index x.bits q) stepped ∙ other_bits c (without d) reg q (read_step every) r (length e.trace) other;
      marks = ap (λ (x : State). x.marks) stepped;
      ready = subst (IsReady c m.layout) (sym same) st.ready;
      ends = st.ends;
      believed = checked.others;
    }

-- ---- a check of another register

other_done : (s new : Scene) (reg place : ℕ) (map : Option ℕ) (e : Event) (bits mirrored q : ℕ) → HasNumbers s.model.chip (length s.model.layout.maps) (op.Check reg map)
    → (q ≡ reg → ⊥) → Holding s.model.chip s.model.layout q bits mirrored s → grant s.model (op.Check reg map) ≡ Ok place → IsDone s new (op.Check reg map) place e
    → Holding s.model.chip s.model.layout q bits mirrored new
other_done s new reg place map e bits mirrored q numbers other h granted done =
    let st = check_done s new reg place map e bits mirrored q numbers h granted done in
    record {
      device = st.after;
      scene_is = st.scene_is;
      ready = st.ready;
      unmarked = λ n inside. ap (λ xs. slice_index xs n) st.marks ∙ h.unmarked n inside;
      bits_are = st.bits q other ∙ h.bits_are;
      believed = st.believed q other ∙ h.believed;
    }

other_by : (s new : Scene) (reg : ℕ) (map : Option ℕ) (e : Event) (bits mirrored q : ℕ) (g : Grant) → grant s.model (op.Check reg map) ≡ g
    → HasNumbers s.model.chip (length s.model.layout.maps) (op.Check reg map) → (q ≡ reg → ⊥) → Holding s.model.chip s.model.layout q bits mirrored s
    → MatchResult g (λ place. IsDone s new (op.Check reg map) place e) (λ why. IsRefused s new (op.Check reg map) why e)
    → Holding s.model.chip s.model.layout q bits mirrored new
other_by s new reg map e bits mirrored q (Ok place) granted numbers other h done = other_done s new reg place map e bits mirrored q numbers other h granted done
other_by s new reg map e bits mirrored q (Err why) granted numbers other h refused =
    subst (Holding s.model.chip s.model.layout q bits mirrored) (sym refused.unchanged) h

-- what a chip and a layout have, those of the model have
pub from_own : (c : ChipData) (l : LayoutData) (m : ModelData) (P : ChipData → LayoutData → Type 0) → m.chip ≡ c → m.layout ≡ l → P m.chip m.layout → P c l
from_own c l m P chip layout h = subst (λ x. P x l) chip (subst (λ y. P m.chip y) layout h)

pub other_check : (c : ChipData) (l : LayoutData) (s new : Scene) (reg : ℕ) (map : Option ℕ) (e : Event) (bits mirrored q : ℕ)
    → HasNumbers c (length l.maps) (op.Check reg map) → (q ≡ reg → ⊥) → Holding c l q bits mirrored s → Performs s new (op.Check reg map) e
    → Holding c l q bits mirrored new
other_check c l s new reg map e bits mirrored q numbers other h performs =
    from_own c l s.model (λ x y. HasNumbers x (length y.maps) (op.Check reg map) → Holding x y q bits mirrored s → Holding x y q bits mirrored new) h.chip h.layout
    (λ numbers h. other_by s new reg map e bits mirrored q (grant s.model (op.Check reg map)) refl numbers other h performs) numbers h

-- ---- a check of this one

-- it reads the register's bits
pub own_check : (c : ChipData) (l : LayoutData) (s new : Scene) (reg place : ℕ) (map : Option ℕ) (e : Event) (bits mirrored : ℕ)
    → HasNumbers c (length l.maps) (op.Check reg map) → (h : Holding c l reg bits mirrored s) → grant s.model (op.Check reg map) ≡ Ok place
    → Performs s new (op.Check reg map) e → e.end ≡ end.Value (ranswer (fields_of c reg) every (record { bits = bits; spent = λ k. false }))
own_check c l s new reg place map e bits mirrored numbers h granted performs =
    from_own c l s.model
    (λ x y. HasNumbers x (length y.maps) (op.Check reg map) → Holding x y reg bits mirrored s
    → e.end ≡ end.Value (ranswer (fields_of x reg) every (let r : Register = record { bits = bits; spent = λ k. false } in r))) h.chip h.layout
    (λ numbers h.
    let done = done_of s new (op.Check reg map) place e granted performs in
    (check_done s new reg place map e bits mirrored reg numbers h granted done).ends
    ∙ ap (λ n. end.Value (ranswer (fields_of s.model.chip reg) every (let r : Register = record { bits = n; spent = λ k. false } in r))) h.bits_are) numbers h
