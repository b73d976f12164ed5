-- A bit that the device holds otherwise than it is believed stays so while registers are written, and other ones read; a check of its
-- register names the field.
use Rattle.std.proofs.Common.{◌≡◌, ◌≢◌, ℕ, ◌-◌, ◌<◌, Bool, true, false, not, List, length, Option, Some, option_map, Ok, Err, MatchResult}
use Rattle.std.proofs.Common.{refl, sym, ap, ◌∙◌, subst, inl, inr}
use Rattle.std.specs.Prelude.{slice_index}
use Rattle.std.proofs.lemmas.Bool.{cases_eq}
use Rattle.std.proofs.lemmas.List.{get_or-set_other, length-set}
use Rattle.rl_policy.specs.Bits.{bit}
use Rattle.rl_policy.specs.Table.{after_write, value_read}
use Rattle.rl_bus.specs.declared.table.Cell.TheVariants as cell
use Rattle.rl_bus.specs.State.{State, poked}
use Rattle.rl_model.specs.Rows.{FieldSeen, ChipData}
use Rattle.rl_model.specs.Fields.{field_of, first_of, fields_of, field_in, policy_in, place_at}
use Rattle.rl_map.specs.Layout.{LayoutData}
use Rattle.rl_split.specs.Law.{IsReady, marks_with}
use Rattle.rl_split.specs.Step.{Register, every, wstep, ranswer, written_bit}
use Rattle.rl_mirror.specs.Mirror.{MirrorData, mirrored_of, marks_in}
use Rattle.rl_mirror.specs.Prediction.{predict_read, predict_raw}
use Rattle.rl_mirror.proofs.PlaceLemmas.{place_is}
use Rattle.rl_access.specs.declared.event.End.TheVariants as end
use Rattle.rl_access.specs.declared.event.Event.{Event}
use Rattle.rl_access.specs.declared.event.Op.{Op}
use Rattle.rl_access.specs.declared.event.Op.TheVariants as op
use Rattle.rl_access.specs.Call.{Scene, IsDone, IsRefused, Performs}
use Rattle.rl_access.specs.Items.{state_after_all, port_for}
use Rattle.rl_access.specs.Laws.{IsFoundOther, ChecksRegister}
use Rattle.rl_access.specs.Model.{ModelData, IsModel}
use Rattle.rl_access.specs.Operation.{reg_of, register_of, HasNumbers}
use Rattle.rl_access.specs.Rules.{Grant, grant, sends, every_field, found_by, back_value, back_written, back_left, device_after}
use Rattle.rl_access.proofs.Beliefs.{check_names}
use Rattle.rl_plain.specs.Agree.{believed}
use Rattle.rl_plain.specs.OneStep.{Step, IsAccess, device_after as device_stepped, no_step, read_step, register_after, step_of, write_step}
use Rattle.rl_plain.proofs.Accesses.{IsStepped}
use Rattle.rl_plain.proofs.Agreement.{here_same, other_bits, other_same, spent-rstep, spent-wstep}
use Rattle.rl_plain.proofs.Answered.{done_of}
use Rattle.rl_plain.proofs.Backdoor.{alone_by, peeked_is, raw_other}
use Rattle.rl_plain.proofs.EachAccess.{one_step}
use Rattle.rl_plain.proofs.NothingFound.{shows}
use Rattle.rl_detect_laws.specs.Otherwise.{HasMarks, KeepsApart}
use Rattle.rl_detect_laws.specs.Resets.{IsNamedBy}
use Rattle.rl_detect_laws.proofs.AccessTest.{raw_spent, shown_there}
use Rattle.rl_detect_laws.proofs.Bashing.{answered_there, bit-wstep, unmarked_bits, written_there}
use Rattle.rl_detect_laws.proofs.BitBash.{IsBit, parts_apart, readable_there}
use Rattle.rl_detect_laws.proofs.Checks.{IsSceneOf, done_over, from_own, over, read_other, some_is}
use Rattle.rl_detect_laws.proofs.Forgetting.{all_without, items_without, without}
use Rattle.rl_detect_laws.proofs.KeptModel.{outcome_model}
use Rattle.rl_detect_laws.proofs.Standing.{outcome_of}

-- ---- what stands

-- the device without its wrong reset values is one without flaws, and has the marks that are believed; this bit of this register
-- is held otherwise than it is believed
pub record IsApart (c : ChipData) (l : LayoutData) (reg b : ℕ) (s : Scene) : Type 0 where
  pub device : State
  pub scene_is : IsSceneOf c l s device
  pub open scene_is use *
  pub ready : IsReady c l (without device)
  pub marked : HasMarks c device s.model.mirror
  pub apart : bit (slice_index device.bits reg) b ≢ bit (mirrored_of s.model.mirror reg) b

pub read_spent : (c : ChipData) (n read fields : ℕ) (m : MirrorData) → (predict_read c n read fields m).spent ≡ m.spent
unfolding predict_read
read_spent c n read fields m = refl

other_marked : (c : ChipData) (d : State) (n q : ℕ) (step : Step) (r : Register) (count : ℕ) → (q ≡ n → ⊥)
    → slice_index (device_stepped c d n step r count).marks q ≡ slice_index d.marks q
other_marked c d n q (write_step chosen word) r count other =
    get_or-set_other d.marks n q (marks_with (fields_of c n) (wstep (fields_of c n) chosen word r).spent (slice_index d.marks n)) 0 other
other_marked c d n q (read_step chosen) r count other = refl
other_marked c d n q no_step r count other = refl

-- ---- an access

module _ (s new : Scene) (o : Op) (place n : ℕ) (event : Event) (reg b : ℕ) (h : IsApart s.model.chip s.model.layout reg b s) (access : IsAccess o)
    (numbers : HasNumbers s.model.chip (length s.model.layout.maps) o) (register : register_of s.model.chip o ≡ Some n) (inside : n < length s.model.chip.regs)
    (granted : grant s.model o ≡ Ok place) (done : IsDone s new o place event) (found : found_by (without h.device) o ≡ found_by h.device o)
    (goes : (k : ℕ) (x : State) → device_after s.model o k event.trace x ≡ state_after_all x event.trace) where
  abbrev held : Register
  held = record { bits = slice_index h.device.bits n; spent = marks_in s.model.chip s.model.mirror.spent n }

  abbrev next : State
  next = state_after_all h.device event.trace

  -- it is a step of its register
  stepped : IsStepped (over s (without h.device)) (over new (without next)) o event place n (without h.device) held
  stepped =
      one_step (over s (without h.device)) (over new (without next)) o event place n (without h.device) held access numbers register
      (record {
        model = h.model;
        told = refl;
        ready = h.ready;
        holds = record { bits = refl; marks = λ j k low at. h.marked n j k inside low at };
      }) granted
      (done_over s new o place event h.device (without h.device) (without next) h.told found
      (λ a. items_without a h.device (port_for s.model.layout place) (sends s.model o place))
      (goes (found_by h.device o) (without h.device) ∙ all_without h.device event.trace) done)

  -- of another register it changes neither side
  others : (q : ℕ) → q < length s.model.chip.regs → (q ≡ n → ⊥)
      → (slice_index next.bits q ≡ slice_index h.device.bits q) × (mirrored_of new.model.mirror q ≡ mirrored_of s.model.mirror q)
  others q there other =
      let same : without next ≡ stepped.stepped.after = some_is stepped.stepped.told in (
        ap (λ (x : State). slice_index x.bits q) (same ∙ stepped.stepped.step)
            ∙ other_bits s.model.chip (without h.device) n q (step_of s.model o place) held (length event.trace) other,
        sym (other_same s.model.chip n q s.model.mirror new.model.mirror held (step_of s.model o place) h.model.chip there other h.model.mirror stepped.follows.mirror).bits,
      )

  -- where both sides are still apart, it leaves what stands
  leaves : ((k : ℕ) → k < length (fields_of s.model.chip n)
      → (register_after (fields_of s.model.chip n) (step_of s.model o place) held).spent k ≡ marks_in s.model.chip new.model.mirror.spent n k)
      → bit (slice_index next.bits reg) b ≢ bit (mirrored_of new.model.mirror reg) b → IsApart s.model.chip s.model.layout reg b new
  leaves spends apart =
      let m = s.model in
      let c = m.chip in
      let d = h.device in
      let same : without next ≡ stepped.stepped.after = some_is stepped.stepped.told in
      let left = outcome_of m o place done.sampled event.trace in
      record {
        device = next;
        scene_is = record {
          model = subst IsModel (sym done.model) (outcome_model m o place done.sampled event.trace h.model numbers);
          chip = ap (λ (x : ModelData). x.chip) done.model ∙ left.0;
          layout = ap (λ (x : ModelData). x.layout) done.model ∙ left.1;
          told = done.goes ∙ ap (option_map (device_after m o done.sampled event.trace)) h.told ∙ ap Some (goes done.sampled d);
        };
        ready = subst (IsReady c m.layout) (sym same) stepped.stepped.ready;
        marked = λ q j k there low at. elim (cases_eq q n) [
          | inl own ↦
              let here : place_at (fields_of c n) j ≡ Some k = ap (λ r. place_at (fields_of c r) j) (sym own) ∙ at in
              ap (λ r. bit (slice_index next.marks r) j) own ∙ ap (λ (x : State). bit (slice_index x.marks n) j) same
              ∙ stepped.stepped.holds.marks j k low here ∙ spends k (place_is (fields_of c n) j k here).0
              ∙ ap (λ r. marks_in c new.model.mirror.spent r k) (sym own)
          | inr other ↦
              ap (λ (x : State). bit (slice_index x.marks q) j) (same ∙ stepped.stepped.step)
              ∙ ap (λ x. bit x j) (other_marked c (without d) n q (step_of m o place) held (length event.trace) other) ∙ h.marked q j k there low at
              ∙ (other_same c n q m.mirror new.model.mirror held (step_of m o place) h.model.chip there other h.model.mirror stepped.follows.mirror).marks k
              (place_is (fields_of c q) j k at).0
        ];
        apart = apart;
      }

-- ---- a write

other_of : (x y : Bool) → x ≢ y → y ≡ not x
other_of true true apart = absurd (apart refl)
other_of true false apart = refl
other_of false true apart = refl
other_of false false apart = absurd (apart refl)

-- the bit belongs to a field that keeps it apart
pub record IsKept (c : ChipData) (reg k b : ℕ) : Type 0 where
  pub reg_in : reg < length c.regs
  pub low : b < 64
  pub at : place_at (fields_of c reg) b ≡ Some k
  pub kept : KeepsApart (policy_in (fields_of c reg) k)

write_own : (s new : Scene) (reg k b n : ℕ) (map : Option ℕ) (value place : ℕ) (event : Event) → IsKept s.model.chip reg k b
    → HasNumbers s.model.chip (length s.model.layout.maps) (op.Write n map value) → IsApart s.model.chip s.model.layout reg b s
    → grant s.model (op.Write n map value) ≡ Ok place → IsDone s new (op.Write n map value) place event → IsApart s.model.chip s.model.layout reg b new
write_own s new reg k b n map value place event is numbers h granted done =
    let o = op.Write n map value in
    let m = s.model in
    let c = m.chip in
    let d = h.device in
    let fs = fields_of c n in
    let st = stepped s new o place n event reg b h tt numbers refl numbers.0 granted done refl (λ k x. refl) in
    let r = held s new o place n event reg b h tt numbers refl numbers.0 granted done refl (λ k x. refl) in
    let same : without (state_after_all d event.trace) ≡ st.stepped.after = some_is st.stepped.told in
    leaves s new o place n event reg b h tt numbers refl numbers.0 granted done refl (λ k x. refl)
    (λ j place. spent-wstep fs every value r j ∙ sym (spent-wstep fs every value (believed c m.mirror n) j)
    ∙ (here_same c n m.mirror new.model.mirror (write_step every value) h.model.chip numbers.0 h.model.mirror st.follows.mirror).marks j place)
    (elim (cases_eq reg n) [
      | inl own ↦
          let at : place_at (fields_of c n) b ≡ Some k = ap (λ q. place_at (fields_of c q) b) (sym own) ∙ is.at in
          let x = bit (slice_index d.bits n) b in
          let y = bit (mirrored_of m.mirror n) b in
          let w = bit value b in
          let spent = (believed c m.mirror n).spent k in
          let p = policy_in fs k in
          let after : bit (slice_index (state_after_all d event.trace).bits n) b ≡ after_write p x w spent =
          ap (λ (z : State). bit (slice_index z.bits n) b) same ∙ ap (λ z. bit z b) st.stepped.holds.bits ∙ bit-wstep fs value r b is.low
          ∙ ap (λ q. written_bit fs every r.spent q x w) at in
          let believed_so : bit (mirrored_of new.model.mirror n) b ≡ after_write p y w spent =
          written_there c n k b value m.mirror new.model.mirror h.model.chip numbers.0 h.model.mirror is.low at st.follows.mirror in
          let apart : y ≡ not x = other_of x y (λ same. h.apart (ap (λ q. bit (slice_index d.bits q) b) own ∙ same ∙ ap (λ q. bit (mirrored_of m.mirror q) b) (sym own))) in
          let kept : KeepsApart p = subst (λ q. KeepsApart (policy_in (fields_of c q) k)) own is.kept in
          λ same. kept x w spent
          (sym after ∙ ap (λ q. bit (slice_index (state_after_all d event.trace).bits q) b) (sym own) ∙ same ∙ ap (λ q. bit (mirrored_of new.model.mirror q) b) own
          ∙ believed_so ∙ ap (λ z. after_write p z w spent) apart)
      | inr other ↦
          let both = others s new o place n event reg b h tt numbers refl numbers.0 granted done refl (λ k x. refl) reg is.reg_in other in
          λ same. h.apart (ap (λ z. bit z b) (sym both.0) ∙ same ∙ ap (λ z. bit z b) both.1)
    ])

-- ---- a check

check_other_own : (s new : Scene) (reg k b n : ℕ) (map : Option ℕ) (place : ℕ) (event : Event) → IsKept s.model.chip reg k b → (reg ≡ n → ⊥)
    → HasNumbers s.model.chip (length s.model.layout.maps) (op.Check n map) → IsApart s.model.chip s.model.layout reg b s
    → grant s.model (op.Check n map) ≡ Ok place → IsDone s new (op.Check n map) place event → IsApart s.model.chip s.model.layout reg b new
check_other_own s new reg k b n map place event is other numbers h granted done =
    let o = op.Check n map in
    let m = s.model in
    let c = m.chip in
    let st = stepped s new o place n event reg b h tt numbers refl numbers.0 granted done refl (λ k x. refl) in
    let r = held s new o place n event reg b h tt numbers refl numbers.0 granted done refl (λ k x. refl) in
    let f = st.follows.mirror in
    let both = others s new o place n event reg b h tt numbers refl numbers.0 granted done refl (λ k x. refl) reg is.reg_in other in
    leaves s new o place n event reg b h tt numbers refl numbers.0 granted done refl (λ k x. refl)
    (λ j place. spent-rstep (fields_of c n) every r j ∙ ap (λ xs. marks_in c xs n j) (sym (read_spent c n _ f.fields m.mirror))
    ∙ ap (λ (x : MirrorData). marks_in c x.spent n j) (sym f.is))
    (λ same. h.apart (ap (λ z. bit z b) (sym both.0) ∙ same ∙ ap (λ z. bit z b) both.1))

-- a check that read another bit than is believed names the field
pub names_read : (c : ChipData) (field b i : ℕ) (s new : Scene) (o : Op) (e : Event) (read : ℕ) → IsBit c field (reg_of c field) (field - first_of c (reg_of c field)) b i
    → s.model.chip ≡ c → ChecksRegister o (reg_of c field) → ChecksRegister e.op (reg_of c field) → Performs s new o e → e.end ≡ end.Value read
    → bit read b ≢ bit (mirrored_of s.model.mirror (reg_of c field)) b → IsNamedBy c field e
names_read c field b i s new o e read is chip checks named performs ends apart =
    let reg = reg_of c field in
    let k = field - first_of c reg in
    let m = mirrored_of s.model.mirror reg in
    let found : IsFoundOther (field_of c field).shape read m = record { compared = is.compared; other = parts_apart c field reg k b i read m is apart } in
    let here : (k < length (fields_of c reg)) × IsFoundOther (field_in (fields_of c reg) k).shape read m =
    (is.inside, subst (λ (f : FieldSeen). IsFoundOther f.shape read m) (sym is.field_is) found) in
    let there = subst (λ (x : ChipData). (k < length (fields_of x reg)) × IsFoundOther (field_in (fields_of x reg) k).shape read m) (sym chip) here in
    record { check = named; names = (check_names s new o e reg read k performs checks ends).1 there }

answers_bits : (fs : List FieldSeen) (r : Register) → ranswer fs every r ≡ ranswer fs every (unmarked_bits r.bits)
unfolding ranswer
answers_bits fs r = refl

check_own_names : (s new : Scene) (field b i : ℕ) (map : Option ℕ) (place : ℕ) (event : Event)
    → IsBit s.model.chip field (reg_of s.model.chip field) (field - first_of s.model.chip (reg_of s.model.chip field)) b i
    → HasNumbers s.model.chip (length s.model.layout.maps) (op.Check (reg_of s.model.chip field) map) → IsApart s.model.chip s.model.layout (reg_of s.model.chip field) b s
    → grant s.model (op.Check (reg_of s.model.chip field) map) ≡ Ok place → Performs s new (op.Check (reg_of s.model.chip field) map) event → IsNamedBy s.model.chip field event
check_own_names s new field b i map place event is numbers h granted performs =
    let c = s.model.chip in
    let reg = reg_of c field in
    let k = field - first_of c reg in
    let o = op.Check reg map in
    let done = done_of s new o place event granted performs in
    let st = stepped s new o place reg event reg b h tt numbers refl numbers.0 granted done refl (λ k x. refl) in
    let bits = slice_index h.device.bits reg in
    let fs = fields_of c reg in
    let r = held s new o place reg event reg b h tt numbers refl numbers.0 granted done refl (λ k x. refl) in
    let read = ranswer fs every (unmarked_bits bits) in
    names_read c field b i s new o event read is refl refl (subst (λ x. ChecksRegister x reg) (sym (ap (λ (y : Event). y.op) st.event_is)) refl) performs
    (st.stepped.ends ∙ ap end.Value (answers_bits fs r))
    (λ same. h.apart (sym (answered_there fs k b bits is.low is.at (readable_there c field reg k b i is)) ∙ same))

-- ---- by the backdoor

back_names : (s new : Scene) (field b i place : ℕ) (event : Event)
    → IsBit s.model.chip field (reg_of s.model.chip field) (field - first_of s.model.chip (reg_of s.model.chip field)) b i
    → IsApart s.model.chip s.model.layout (reg_of s.model.chip field) b s → grant s.model (op.BackCheck (reg_of s.model.chip field)) ≡ Ok place
    → Performs s new (op.BackCheck (reg_of s.model.chip field)) event → IsNamedBy s.model.chip field event
back_names s new field b i place event is h granted performs =
    let m = s.model in
    let c = m.chip in
    let reg = reg_of c field in
    let k = field - first_of c reg in
    let o = op.BackCheck reg in
    let done = done_of s new o place event granted performs in
    let sampled : done.sampled ≡ slice_index h.device.bits reg = done.found h.device h.told ∙ peeked_is h.device reg in
    let p = policy_in (fields_of c reg) k in
    let read_so : bit (back_value m reg done.sampled) b ≡ bit (slice_index h.device.bits reg) b =
    shown_there (fields_of c reg) k b done.sampled is.low is.at ∙ ap (λ x. value_read p (bit x b)) sampled
    ∙ shows p (bit (slice_index h.device.bits reg) b) (readable_there c field reg k b i is) in
    names_read c field b i s new o event (back_value m reg done.sampled) is refl refl
    (subst (λ x. ChecksRegister x reg) (sym (ap (λ (y : Event). y.op) done.event_is)) refl) performs (ap (λ (y : Event). y.end) done.event_is)
    (λ same. h.apart (sym read_so ∙ same))

-- a deposit into another register
deposit_stays : (s new : Scene) (reg b q x : ℕ) (o : Op) (place : ℕ) (event : Event) (mirror : MirrorData) → (h : IsApart s.model.chip s.model.layout reg b s)
    → HasNumbers s.model.chip (length s.model.layout.maps) o → IsDone s new o place event → (reg ≡ q → ⊥) → new.device ≡ Some (poked h.device (cell.Reg q) x)
    → new.model ≡ record s.model { mirror = mirror } → mirrored_of mirror reg ≡ mirrored_of s.model.mirror reg → mirror.spent ≡ s.model.mirror.spent
    → IsApart s.model.chip s.model.layout reg b new
unfolding poked
deposit_stays s new reg b q x o place event mirror h numbers done other goes is bits marks =
    let left = outcome_of s.model o place done.sampled event.trace in
    record {
      device = poked h.device (cell.Reg q) x;
      scene_is = record {
        model = subst IsModel (sym done.model) (outcome_model s.model o place done.sampled event.trace h.model numbers);
        chip = ap (λ (m : ModelData). m.chip) done.model ∙ left.0;
        layout = ap (λ (m : ModelData). m.layout) done.model ∙ left.1;
        told = goes;
      };
      ready = record { setup = h.ready.setup; beats = h.ready.beats; bits = length-set h.device.bits q _ ∙ h.ready.bits; marks = h.ready.marks };
      marked = λ r j k there low at. h.marked r j k there low at ∙ ap (λ xs. marks_in s.model.chip xs r k) (sym marks)
          ∙ ap (λ (m : ModelData). marks_in s.model.chip m.mirror.spent r k) (sym is);
      apart = λ same. h.apart (ap (λ z. bit z b) (sym (get_or-set_other h.device.bits q reg _ 0 other)) ∙ same
          ∙ ap (λ (m : ModelData). bit (mirrored_of m.mirror reg) b) is ∙ ap (λ z. bit z b) bits);
    }

back_write_own : (s new : Scene) (reg b q value place : ℕ) (event : Event) → IsApart s.model.chip s.model.layout reg b s → q < length s.model.chip.regs → (reg ≡ q → ⊥)
    → IsDone s new (op.BackWrite q value) place event → IsApart s.model.chip s.model.layout reg b new
back_write_own s new reg b q value place event h there other done =
    let m = s.model in
    let c = m.chip in
    let by = alone_by s new (op.BackWrite q value) event place h.device done h.told refl in
    let written = back_written m q value done.sampled in
    deposit_stays s new reg b q written (op.BackWrite q value) place event (predict_raw c q written m.mirror) h there done other by.told by.model
    (raw_other c q written reg m.mirror other) (raw_spent c q written m.mirror)

back_check_own : (s new : Scene) (reg b q place : ℕ) (event : Event) → IsApart s.model.chip s.model.layout reg b s → q < length s.model.chip.regs → (reg ≡ q → ⊥)
    → IsDone s new (op.BackCheck q) place event → IsApart s.model.chip s.model.layout reg b new
back_check_own s new reg b q place event h there other done =
    let m = s.model in
    let c = m.chip in
    let by = alone_by s new (op.BackCheck q) event place h.device done h.told refl in
    let read = back_value m q done.sampled in
    deposit_stays s new reg b q (back_left m q done.sampled) (op.BackCheck q) place event (predict_read c q read every_field m.mirror) h there done other by.told by.model
    (read_other c q read reg m.mirror other) (read_spent c q read every_field m.mirror)

-- ---- of any chip and layout

pub by_grant : (c : ChipData) (l : LayoutData) (reg b : ℕ) (s new : Scene) (o : Op) (e : Event) (g : Grant) → grant s.model o ≡ g → IsApart c l reg b s
    → ((place : ℕ) → grant s.model o ≡ Ok place → IsDone s new o place e → IsApart c l reg b new)
    → MatchResult g (λ place. IsDone s new o place e) (λ why. IsRefused s new o why e) → IsApart c l reg b new
by_grant c l reg b s new o e (Ok place) granted h leaves is = leaves place granted is
by_grant c l reg b s new o e (Err why) granted h leaves refused = subst (IsApart c l reg b) (sym refused.unchanged) h

module _ (c : ChipData) (l : LayoutData) (reg k b : ℕ) (is : IsKept c reg k b) where
  pub write_apart : (n : ℕ) (map : Option ℕ) (value : ℕ) → HasNumbers c (length l.maps) (op.Write n map value) → (s new : Scene) (e : Event)
      → IsApart c l reg b s → Performs s new (op.Write n map value) e → IsApart c l reg b new
  write_apart n map value numbers s new e h performs =
      by_grant c l reg b s new (op.Write n map value) e (grant s.model (op.Write n map value)) refl h
      (λ place granted done.
      from_own c l s.model (λ x y. IsKept x reg k b → HasNumbers x (length y.maps) (op.Write n map value) → IsApart x y reg b s → IsApart x y reg b new) h.chip h.layout
      (λ is numbers h. write_own s new reg k b n map value place e is numbers h granted done) is numbers h) performs

  pub check_apart : (n : ℕ) (map : Option ℕ) → (reg ≡ n → ⊥) → HasNumbers c (length l.maps) (op.Check n map) → (s new : Scene) (e : Event)
      → IsApart c l reg b s → Performs s new (op.Check n map) e → IsApart c l reg b new
  check_apart n map other numbers s new e h performs =
      by_grant c l reg b s new (op.Check n map) e (grant s.model (op.Check n map)) refl h
      (λ place granted done.
      from_own c l s.model (λ x y. IsKept x reg k b → HasNumbers x (length y.maps) (op.Check n map) → IsApart x y reg b s → IsApart x y reg b new) h.chip h.layout
      (λ is numbers h. check_other_own s new reg k b n map place e is other numbers h granted done) is numbers h) performs

  pub back_write_apart : (q value : ℕ) → q < length c.regs → (reg ≡ q → ⊥) → (s new : Scene) (e : Event)
      → IsApart c l reg b s → Performs s new (op.BackWrite q value) e → IsApart c l reg b new
  back_write_apart q value there other s new e h performs =
      by_grant c l reg b s new (op.BackWrite q value) e (grant s.model (op.BackWrite q value)) refl h
      (λ place granted done.
      from_own c l s.model (λ x y. q < length x.regs → IsApart x y reg b s → IsApart x y reg b new) h.chip h.layout
      (λ there h. back_write_own s new reg b q value place e h there other done) there h) performs

  pub back_check_apart : (q : ℕ) → q < length c.regs → (reg ≡ q → ⊥) → (s new : Scene) (e : Event)
      → IsApart c l reg b s → Performs s new (op.BackCheck q) e → IsApart c l reg b new
  back_check_apart q there other s new e h performs =
      by_grant c l reg b s new (op.BackCheck q) e (grant s.model (op.BackCheck q)) refl h
      (λ place granted done.
      from_own c l s.model (λ x y. q < length x.regs → IsApart x y reg b s → IsApart x y reg b new) h.chip h.layout
      (λ there h. back_check_own s new reg b q place e h there other done) there h) performs

-- the check names it
pub check_names_it : (c : ChipData) (l : LayoutData) (field b i : ℕ) (map : Option ℕ) (place : ℕ) (s new : Scene) (e : Event)
    → IsBit c field (reg_of c field) (field - first_of c (reg_of c field)) b i → HasNumbers c (length l.maps) (op.Check (reg_of c field) map)
    → IsApart c l (reg_of c field) b s → grant s.model (op.Check (reg_of c field) map) ≡ Ok place → Performs s new (op.Check (reg_of c field) map) e → IsNamedBy c field e
check_names_it c l field b i map place s new e is numbers h granted performs =
    from_own c l s.model
    (λ x y. IsBit x field (reg_of x field) (field - first_of x (reg_of x field)) b i → HasNumbers x (length y.maps) (op.Check (reg_of x field) map)
    → IsApart x y (reg_of x field) b s → grant s.model (op.Check (reg_of x field) map) ≡ Ok place → Performs s new (op.Check (reg_of x field) map) e → IsNamedBy x field e) h.chip h.layout
    (λ is numbers h granted performs. check_own_names s new field b i map place e is numbers h granted performs) is numbers h granted performs

pub back_check_names_it : (c : ChipData) (l : LayoutData) (field b i place : ℕ) (s new : Scene) (e : Event)
    → IsBit c field (reg_of c field) (field - first_of c (reg_of c field)) b i → IsApart c l (reg_of c field) b s
    → grant s.model (op.BackCheck (reg_of c field)) ≡ Ok place → Performs s new (op.BackCheck (reg_of c field)) e → IsNamedBy c field e
back_check_names_it c l field b i place s new e is h granted performs =
    from_own c l s.model
    (λ x y. IsBit x field (reg_of x field) (field - first_of x (reg_of x field)) b i → IsApart x y (reg_of x field) b s
    → grant s.model (op.BackCheck (reg_of x field)) ≡ Ok place → Performs s new (op.BackCheck (reg_of x field)) e → IsNamedBy x field e) h.chip h.layout
    (λ is h granted performs. back_names s new field b i place e is h granted performs) is h granted performs
