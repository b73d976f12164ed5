-- A bit whose field has another policy in the device goes as the computation says.
use Rattle.std.proofs.Common.{◌≡◌, ℕ, ◌-◌, ◌<◌, Bool, true, false, ◌||◌, List, length, map, All, Option, None, Some, Ok, Err, MatchResult}
use Rattle.std.proofs.Common.{if◌then◌else◌, refl, sym, ap, ◌∙◌, subst, eqb, eq-eqb, ne_eqb, inl, inr}
use Rattle.std.specs.Prelude.{is_some, slice_index}
use Rattle.std.proofs.lemmas.Bool.{cases_eq}
use Rattle.std.proofs.lemmas.List.{get_or-set_other, length-set}
use Rattle.rl_policy.specs.Bits.{bit}
use Rattle.rl_policy.specs.Table.{after_write, after_read, value_read, is_write_only, spends_mark}
use Rattle.rl_policy.specs.declared.policy.Policy.{Policy}
use Rattle.rl_bus.specs.declared.op.Answer.{Answer}
use Rattle.rl_bus.specs.declared.op.BusOp.{BusOp}
use Rattle.rl_bus.specs.declared.table.Cell.TheVariants as cell
use Rattle.rl_bus.specs.Setup.{Setup, field_at, stuck_at, or_else}
use Rattle.rl_bus.specs.State.{State, poked}
use Rattle.rl_model.specs.Rows.{FieldSeen, ChipData}
use Rattle.rl_model.specs.Chip.{IsSound as IsChip}
use Rattle.rl_model.specs.Fields.{field_of, first_of, fields_of, policy_in, place_at}
use Rattle.rl_model.specs.declared.rows.Item.TheVariants.{Reg}
use Rattle.rl_map.specs.Layout.{LayoutData, place_at as row_at}
use Rattle.rl_map.specs.Tables.{setup_of}
use Rattle.rl_split.specs.Access.{all_bytes, ops_of, joined}
use Rattle.rl_split.specs.Law.{IsPlaceOf, IsReady, Holds, no_flaws}
use Rattle.rl_split.specs.Runs.{answers_of, state_after_all as ops_after}
use Rattle.rl_split.specs.Step.{Register, every, wstep, rstep, ranswer, written_bit, left_bit, shown_bit}
use Rattle.rl_split.proofs.Accesses.{whole_write_is_step, whole_read_is_step}
use Rattle.rl_mirror.specs.Fields.{owned}
use Rattle.rl_mirror.specs.Mirror.{MirrorData, IsMirrorOf, mirrored_of, marks_in}
use Rattle.rl_mirror.specs.Prediction.{predict_read, predict_raw, shown, left_by_read, written as raw_written}
use Rattle.rl_access.specs.declared.event.Event.{Event}
use Rattle.rl_access.specs.declared.event.Op.{Op}
use Rattle.rl_access.specs.declared.event.Op.TheVariants as op
use Rattle.rl_access.specs.declared.event.End.TheVariants as end
use Rattle.rl_access.specs.Call.{Scene, IsDone, IsRefused, Performs}
use Rattle.rl_access.specs.Items.{words_answered, port_for}
use Rattle.rl_access.specs.Laws.{ChecksRegister}
use Rattle.rl_access.specs.Model.{ModelData, IsModel}
use Rattle.rl_access.specs.Operation.{reg_of, HasNumbers}
use Rattle.rl_access.specs.Rules.{Grant, grant, sends, outcome, Outcome, forgetting, every_field, back_value, back_left, back_written}
use Rattle.rl_access.proofs.Places.{place_size}
use Rattle.rl_plain.specs.OneStep.{write_step}
use Rattle.rl_plain.proofs.Accesses.{all_written, over_bus}
use Rattle.rl_plain.proofs.Agreement.{other_same, spent-rstep, spent-wstep}
use Rattle.rl_plain.proofs.Answered.{done_of, has_run}
use Rattle.rl_plain.proofs.Backdoor.{alone_by, peeked_is, is_field, raw_other}
use Rattle.rl_plain.proofs.Followed.{IsPredictedWrite, IsPredictedRead, all_chosen}
use Rattle.rl_plain.proofs.Granted.{way_found, place_for}
use Rattle.rl_plain.proofs.NothingFound.{shows}
use Rattle.rl_plain.proofs.Outcomes.{whole_write_is, whole_value, whole_read_is}
use Rattle.rl_plain.proofs.Registers.{bit-ranswer}
use Rattle.rl_plain.proofs.Ways.{write_way}
use Rattle.rl_detect_laws.specs.BitFlaws.{HasOneMark}
use Rattle.rl_detect_laws.specs.Devices.{IsSetUp}
use Rattle.rl_detect_laws.specs.Policies.{other_policy}
use Rattle.rl_detect_laws.specs.Resets.{IsNamedBy}
use Rattle.rl_detect_laws.specs.Sides.{Sides, goes_by, written, checked, checked_behind, written_behind, differs, differs_behind}
use Rattle.rl_detect_laws.proofs.AccessTest.{raw_spent, shown_there}
use Rattle.rl_detect_laws.proofs.Alongside.{setup_all}
use Rattle.rl_detect_laws.proofs.Apart.{read_spent, names_read}
use Rattle.rl_detect_laws.proofs.Bashing.{bit-wstep, bit-rstep}
use Rattle.rl_detect_laws.proofs.BitBash.{IsBit}
use Rattle.rl_detect_laws.proofs.BitBeliefs.{IsBitAt, wrote_bit, read_bit, raw_bit, back_read_bit, left_there, made_there, deposited_bit}
use Rattle.rl_detect_laws.proofs.BitWalk.{Reaches, ActsSo}
use Rattle.rl_detect_laws.proofs.Checks.{IsSceneOf, from_own}
use Rattle.rl_detect_laws.proofs.FirmBit.{apart_by}
use Rattle.rl_detect_laws.proofs.KeptModel.{outcome_model}
use Rattle.rl_detect_laws.proofs.OtherPolicy.{as_with, all_go, all_answer}
use Rattle.rl_detect_laws.proofs.PolicyChip.{having, setup_having, having_sound, place_having, policy_having}
use Rattle.rl_detect_laws.proofs.Standing.{outcome_of}

-- the bit is held and believed so, by a device whose field has that policy
pub record SeenOther (c : ChipData) (l : LayoutData) (field : ℕ) (q : Policy) (reg k b : ℕ) (x : Sides) (s : Scene) : Type 0 where
  pub device : State
  pub scene_is : IsSceneOf c l s device
  pub open scene_is use *
  pub set_up : IsSetUp c (setup_of c l (other_policy field q)) device
  pub mark_of : ℕ → ℕ → Bool
  pub each_mark : HasOneMark c device mark_of
  pub held : bit (slice_index device.bits reg) b ≡ x.held
  pub marked : mark_of reg k ≡ x.marked
  pub believed : bit (mirrored_of s.model.mirror reg) b ≡ x.believed
  pub spent : marks_in c s.model.mirror.spent reg k ≡ x.spent

-- ---- an access over the bus, as one of the chip with that policy

-- the marks of register n's fields are these now
abbrev marks_at : (ℕ → ℕ → Bool) → ℕ → (ℕ → Bool) → ℕ → ℕ → Bool
marks_at mark_of n spent reg = if eqb reg n then spent else mark_of reg

-- a register with the marks of its fields
abbrev held_in : State → (ℕ → ℕ → Bool) → ℕ → Register
held_in d mark_of n = record { bits = slice_index d.bits n; spent = mark_of n }

-- what it leaves: the register so, and others as they were
record IsAccessed (c : ChipData) (l : LayoutData) (field : ℕ) (q : Policy) (n : ℕ) (d next : State) (mark_of : ℕ → ℕ → Bool) (r : Register) : Type 0 where
  set_up : IsSetUp c (setup_of c l (other_policy field q)) next
  bits : slice_index next.bits n ≡ r.bits
  others : (reg : ℕ) → (reg ≡ n → ⊥) → slice_index next.bits reg ≡ slice_index d.bits reg
  each_mark : HasOneMark c next (marks_at mark_of n r.spent)

abbrev AllFine : List Answer → Type 0
AllFine answers = All (λ a. a.failed ≡ false) answers

module _ (c : ChipData) (l : LayoutData) (field : ℕ) (q : Policy) (inside : field < length c.fields) (n place : ℕ) (d : State)
    (is : IsSetUp c (setup_of c l (other_policy field q)) d) (mark_of : ℕ → ℕ → Bool) (marked : HasOneMark c d mark_of) (n_in : n < length c.regs) where
  ready : IsReady (having c field q) l (as_with c l field q d)
  ready = record { setup = setup_having c l field q; beats = is.beats; bits = is.bits; marks = is.marks }

  holds : Holds (having c field q) (as_with c l field q d) n (held_in d mark_of n)
  holds = record { bits = refl; marks = λ b k low at. marked n b k n_in low (sym (place_having c field q n b) ∙ at) }

  place_with : (write : Bool) → IsPlaceOf c l place n write → IsPlaceOf (having c field q) l place n write
  place_with write at = record {
    chip = having_sound c field q at.chip;
    layout = at.layout;
    built_with = at.built_with;
    place_in = at.place_in;
    item = at.item;
    right = at.right;
  }

  -- where the register is left so, and the marks of others as they were
  accessed : (ops : List BusOp) (r : Register) → let next = ops_after d (row_at l place).port ops in
      IsReady (having c field q) l (ops_after (as_with c l field q d) (row_at l place).port ops)
      → Holds (having c field q) (ops_after (as_with c l field q d) (row_at l place).port ops) n r
      → ((reg : ℕ) → (reg ≡ n → ⊥) → slice_index (ops_after (as_with c l field q d) (row_at l place).port ops).bits reg ≡ slice_index d.bits reg)
      → ((reg : ℕ) → (reg ≡ n → ⊥) → slice_index (ops_after (as_with c l field q d) (row_at l place).port ops).marks reg ≡ slice_index d.marks reg)
      → IsAccessed c l field q n d next mark_of r
  accessed ops r left held bits marks =
      let port = (row_at l place).port in
      let goes = all_go c l field q inside ops d port is.setup in
      let next = ops_after d port ops in
      record {
        set_up = record {
          setup = setup_all ops d port ∙ is.setup;
          beats = λ p a. ap (λ (y : State). y.beats p a) (sym goes) ∙ left.beats p a;
          bits = ap (λ (y : State). length y.bits) (sym goes) ∙ left.bits;
          marks = ap (λ (y : State). length y.marks) (sym goes) ∙ left.marks;
        };
        bits = ap (λ (y : State). slice_index y.bits n) (sym goes) ∙ held.bits;
        others = λ reg other. ap (λ (y : State). slice_index y.bits reg) (sym goes) ∙ bits reg other;
        each_mark = λ reg b k there low at. elim (cases_eq reg n) [
          | inl own ↦
              ap (λ m. bit (slice_index next.marks m) b) own ∙ ap (λ (y : State). bit (slice_index y.marks n) b) (sym goes)
              ∙ held.marks b k low (place_having c field q n b ∙ ap (λ m. place_at (fields_of c m) b) (sym own) ∙ at)
              ∙ ap (λ t. (if t then r.spent else mark_of reg) k) (sym (eq-eqb reg n own))
          | inr other ↦
              ap (λ (y : State). bit (slice_index y.marks reg) b) (sym goes) ∙ ap (λ m. bit m b) (marks reg other) ∙ marked reg b k there low at
              ∙ ap (λ t. (if t then r.spent else mark_of reg) k) (sym (ne_eqb reg n other))
        ];
      }

  abbrev write_ops : (bytes value : ℕ) → List BusOp
  write_ops bytes value = ops_of l place 0 (all_bytes bytes) value true

  abbrev read_ops : (bytes : ℕ) → List BusOp
  read_ops bytes = ops_of l place 0 (all_bytes bytes) 0 false

  write_goes : (value : ℕ) → IsPlaceOf c l place n true
      → AllFine (answers_of d (row_at l place).port (ops_of l place 0 (all_bytes (row_at l place).bytes) value true))
      × IsAccessed c l field q n d (ops_after d (row_at l place).port (ops_of l place 0 (all_bytes (row_at l place).bytes) value true)) mark_of
      (wstep (fields_of (having c field q) n) every value (held_in d mark_of n))
  write_goes value at =
      let x = as_with c l field q d in
      let ops = write_ops (row_at l place).bytes value in
      let port = (row_at l place).port in
      let w = whole_write_is_step (having c field q) l x place n value (held_in d mark_of n) (place_with true at) ready holds in (
        subst AllFine (all_answer c l field q inside ops d port is.setup) (all_written (answers_of x port ops) ops w.answers),
        accessed ops (wstep (fields_of (having c field q) n) every value (held_in d mark_of n)) w.ready w.holds
            (λ reg other. ap (λ (y : State). slice_index y.bits reg) w.state ∙ get_or-set_other d.bits n reg _ 0 other)
            (λ reg other. ap (λ (y : State). slice_index y.marks reg) w.state ∙ get_or-set_other d.marks n reg _ 0 other),
      )

  read_goes : IsPlaceOf c l place n false
      → let ops = ops_of l place 0 (all_bytes (row_at l place).bytes) 0 false in
      AllFine (answers_of d (row_at l place).port ops)
      × (joined l place 0 (all_bytes (row_at l place).bytes) (map (λ a. a.word) (answers_of d (row_at l place).port ops))
      ≡ ranswer (fields_of (having c field q) n) every (held_in d mark_of n))
      × IsAccessed c l field q n d (ops_after d (row_at l place).port ops) mark_of (rstep (fields_of (having c field q) n) every (held_in d mark_of n))
  read_goes at =
      let x = as_with c l field q d in
      let ops = read_ops (row_at l place).bytes in
      let port = (row_at l place).port in
      let chosen = all_bytes (row_at l place).bytes in
      let w = whole_read_is_step (having c field q) l x place n (held_in d mark_of n) (place_with false at) ready holds in
      let says = all_answer c l field q inside ops d port is.setup in (
        subst AllFine says w.answers,
        ap (λ answers. joined l place 0 chosen (map (λ (a : Answer). a.word) answers)) (sym says) ∙ w.value_is,
        accessed ops (rstep (fields_of (having c field q) n) every (held_in d mark_of n)) w.ready w.holds
            (λ reg other. ap (λ (y : State). slice_index y.bits reg) w.state ∙ get_or-set_other d.bits n reg _ 0 other)
            (λ reg other. ap (λ (y : State). slice_index y.marks reg) w.state),
      )

abbrev map_words : List Answer → List ℕ
map_words answers = map (λ a. a.word) answers

-- ---- an operation over the bus

-- the scene that it leaves
record IsAccessTo (c : ChipData) (l : LayoutData) (field : ℕ) (q : Policy) (n : ℕ) (d : State) (mark_of : ℕ → ℕ → Bool) (new : Scene) (r : Register) : Type 0 where
  next : State
  scene_is : IsSceneOf c l new next
  left : IsAccessed c l field q n d next mark_of r

record IsWrote (c : ChipData) (l : LayoutData) (field : ℕ) (q : Policy) (n value : ℕ) (d : State) (mark_of : ℕ → ℕ → Bool) (s new : Scene) : Type 0 where
  access : IsAccessTo c l field q n d mark_of new (wstep (fields_of (having c field q) n) every value (held_in d mark_of n))
  predicted : IsPredictedWrite c n every value s.model.mirror new.model.mirror

record IsHasRead (c : ChipData) (l : LayoutData) (field : ℕ) (q : Policy) (n : ℕ) (d : State) (mark_of : ℕ → ℕ → Bool) (s new : Scene) (e : Event) : Type 0 where
  access : IsAccessTo c l field q n d mark_of new (rstep (fields_of (having c field q) n) every (held_in d mark_of n))
  predicted : IsPredictedRead c n every (ranswer (fields_of (having c field q) n) every (held_in d mark_of n)) s.model.mirror new.model.mirror
  ends : e.end ≡ end.Value (ranswer (fields_of (having c field q) n) every (held_in d mark_of n))
  checks : ChecksRegister e.op n

module _ (s new : Scene) (field : ℕ) (q : Policy) (d : State) (e : Event) (n place : ℕ) (ok : IsModel s.model) (told : s.device ≡ Some d)
    (is : IsSetUp s.model.chip (setup_of s.model.chip s.model.layout (other_policy field q)) d) (mark_of : ℕ → ℕ → Bool) (marked : HasOneMark s.model.chip d mark_of)
    (inside : field < length s.model.chip.fields) where
  scene_after : (o : Op) (next : State) → HasNumbers s.model.chip (length s.model.layout.maps) o → IsDone s new o place e → new.device ≡ Some next
      → IsSceneOf s.model.chip s.model.layout new next
  scene_after o next numbers done goes =
      let left = outcome_of s.model o place done.sampled e.trace in
      record {
        model = subst IsModel (sym done.model) (outcome_model s.model o place done.sampled e.trace ok numbers);
        chip = ap (λ (m : ModelData). m.chip) done.model ∙ left.0;
        layout = ap (λ (m : ModelData). m.layout) done.model ∙ left.1;
        told = goes;
      }

  wrote_own : (map : Option ℕ) (value : ℕ) → HasNumbers s.model.chip (length s.model.layout.maps) (op.Write n map value) → grant s.model (op.Write n map value) ≡ Ok place
      → IsDone s new (op.Write n map value) place e → IsWrote s.model.chip s.model.layout field q n value d mark_of s new
  wrote_own map value numbers granted done =
      let m = s.model in
      let c = m.chip in
      let l = m.layout in
      let o = op.Write n map value in
      let way = write_way m n map value place granted in
      let port = port_for l place in
      let r = wstep (fields_of (having c field q) n) every value (held_in d mark_of n) in
      let both : AllFine (answers_of d port (sends m o place)) × IsAccessed c l field q n d (ops_after d port (sends m o place)) mark_of r =
      subst (λ k. AllFine (answers_of d port (ops_of l place 0 (all_bytes k) value true))
      × IsAccessed c l field q n d (ops_after d port (ops_of l place 0 (all_bytes k) value true)) mark_of r) (place_size m (Reg n) place ok way.there)
      (write_goes c l field q inside n place d is mark_of marked numbers.0 value (place_for m n place true ok way)) in
      let run = has_run s new o e place n d (sends m o place) (outcome m o place 0) done told (over_bus m o place n tt refl) both.0 in
      record {
        access = record { next = ops_after d port (sends m o place); scene_is = scene_after o _ numbers done run.told; left = both.1 };
        predicted = record {
          fields = every_field;
          are = all_chosen c n ok.chip numbers.0;
          is = ap (λ (y : ModelData). y.mirror) run.model
              ∙ ap (λ (y : Outcome). y.model.mirror) (whole_write_is m (forgetting m place) end.Done n place value e.trace run.none);
        };
      }

  read_own : (map : Option ℕ) → HasNumbers s.model.chip (length s.model.layout.maps) (op.Check n map) → grant s.model (op.Check n map) ≡ Ok place
      → IsDone s new (op.Check n map) place e → IsHasRead s.model.chip s.model.layout field q n d mark_of s new e
  read_own map numbers granted done =
      let m = s.model in
      let c = m.chip in
      let l = m.layout in
      let o = op.Check n map in
      let way = way_found m (Reg n) map false place granted in
      let port = port_for l place in
      let r = rstep (fields_of (having c field q) n) every (held_in d mark_of n) in
      let v = ranswer (fields_of (having c field q) n) every (held_in d mark_of n) in
      let all : AllFine (answers_of d port (sends m o place))
      × (whole_value m n place (map_words (answers_of d port (sends m o place))) ≡ v)
      × IsAccessed c l field q n d (ops_after d port (sends m o place)) mark_of r =
      subst (λ k. AllFine (answers_of d port (ops_of l place 0 (all_bytes k) 0 false))
      × (joined l place 0 (all_bytes k) (map_words (answers_of d port (ops_of l place 0 (all_bytes k) 0 false))) ≡ v)
      × IsAccessed c l field q n d (ops_after d port (ops_of l place 0 (all_bytes k) 0 false)) mark_of r) (place_size m (Reg n) place ok way.there)
      (read_goes c l field q inside n place d is mark_of marked numbers.0 (place_for m n place false ok way)) in
      let run = has_run s new o e place n d (sends m o place) (outcome m o place 0) done told (over_bus m o place n tt refl) all.0 in
      let value : whole_value m n place (words_answered e.trace) ≡ v = ap (whole_value m n place) run.words ∙ all.1 in
      let made = whole_read_is m (forgetting m place) true n place e.trace refl run.none in
      record {
        access = record { next = ops_after d port (sends m o place); scene_is = scene_after o _ numbers done run.told; left = all.2 };
        predicted = record {
          fields = every_field;
          are = all_chosen c n ok.chip numbers.0;
          is = ap (λ (y : ModelData). y.mirror) run.model ∙ ap (λ (y : Outcome). y.model.mirror) made ∙ ap (λ x. predict_read c n x every_field m.mirror) value;
        };
        ends = ap (λ (y : Event). y.end) run.event_is ∙ ap (λ (y : Outcome). y.end) made ∙ ap end.Value value;
        checks = subst (λ o. ChecksRegister o n) (sym (ap (λ (y : Event). y.op) run.event_is)) refl;
      }

-- ---- what is seen of the bit

either_grant : (A : Scene → Type 0) (s new : Scene) (o : Op) (e : Event) (g : Grant) → grant s.model o ≡ g → A s
    → ((place : ℕ) → grant s.model o ≡ Ok place → IsDone s new o place e → A new)
    → MatchResult g (λ place. IsDone s new o place e) (λ why. IsRefused s new o why e) → A new
either_grant A s new o e (Ok place) granted h goes is = goes place granted is
either_grant A s new o e (Err why) granted h goes refused = subst A (sym refused.unchanged) h

read_apart : (c : ChipData) (n value fields reg : ℕ) (m : MirrorData) → (reg ≡ n → ⊥) → mirrored_of (predict_read c n value fields m) reg ≡ mirrored_of m reg
unfolding predict_read
read_apart c n value fields reg m other = get_or-set_other m.mirrored n reg _ 0 other

none_stuck : (c : ChipData) (l : LayoutData) (field : ℕ) (q : Policy) (r k : ℕ) → stuck_at (setup_of c l (other_policy field q)) r k ≡ None
unfolding setup_of
none_stuck c l field q r k = refl

same_field : (c : ChipData) (l : LayoutData) (field : ℕ) (q : Policy) (r k : ℕ) → field_at (setup_of c l (other_policy field q)) r k ≡ field_at (setup_of c l no_flaws) r k
unfolding setup_of
same_field c l field q r k = refl

module _ (c : ChipData) (l : LayoutData) (field b i : ℕ) (q : Policy) (sound : IsChip c) (inside : field < length c.fields)
    (is : IsBit c field (reg_of c field) (field - first_of c (reg_of c field)) b i) where
  abbrev reg : ℕ
  reg = reg_of c field

  abbrev k : ℕ
  k = field - first_of c (reg_of c field)

  abbrev p : Policy
  p = (field_of c field).shape.policy

  abbrev fs : List FieldSeen
  fs = fields_of c (reg_of c field)

  abbrev its_fs : List FieldSeen
  its_fs = fields_of (having c field q) (reg_of c field)

  abbrev Seen : Sides → Scene → Type 0
  Seen = SeenOther c l field q (reg_of c field) (field - first_of c (reg_of c field)) b

  at_bit : IsBitAt c (reg_of c field) (field - first_of c (reg_of c field)) b
  at_bit = record { sound = sound; inside = is.reg_in; low = is.low; at = is.at }

  p_is : policy_in (fields_of c (reg_of c field)) (field - first_of c (reg_of c field)) ≡ (field_of c field).shape.policy
  p_is = ap (λ (f : FieldSeen). f.shape.policy) is.field_is

  q_is : policy_in (fields_of (having c field q) (reg_of c field)) (field - first_of c (reg_of c field)) ≡ q
  q_is = policy_having c field q sound inside

  its_at : place_at (fields_of (having c field q) (reg_of c field)) b ≡ Some (field - first_of c (reg_of c field))
  its_at = place_having c field q (reg_of c field) b ∙ is.at

  readable : is_write_only (policy_in (fields_of c (reg_of c field)) (field - first_of c (reg_of c field))) ≡ false
  readable = ap is_write_only p_is ∙ is.compared.readable

  built_of : (x : Sides) (s : Scene) → Seen x s → IsMirrorOf c s.model.mirror
  built_of x s h = subst (λ (y : ChipData). IsMirrorOf y s.model.mirror) h.chip h.model.mirror

  -- ---- over the bus, of any register

  wrote : (x : Sides) (s new : Scene) (e : Event) (n place : ℕ) (map : Option ℕ) (value : ℕ) → (h : Seen x s) → HasNumbers c (length l.maps) (op.Write n map value)
      → grant s.model (op.Write n map value) ≡ Ok place → IsDone s new (op.Write n map value) place e → IsWrote c l field q n value h.device h.mark_of s new
  wrote x s new e n place map value h numbers granted done =
      from_own c l s.model
      (λ y z. IsSetUp y (setup_of y z (other_policy field q)) h.device → HasOneMark y h.device h.mark_of → field < length y.fields
      → HasNumbers y (length z.maps) (op.Write n map value) → IsWrote y z field q n value h.device h.mark_of s new) h.chip h.layout
      (λ set_up marked there numbers. wrote_own s new field q h.device e n place h.model h.told set_up h.mark_of marked there map value numbers granted done)
      h.set_up h.each_mark inside numbers

  has_read : (x : Sides) (s new : Scene) (e : Event) (n place : ℕ) (map : Option ℕ) → (h : Seen x s) → HasNumbers c (length l.maps) (op.Check n map)
      → grant s.model (op.Check n map) ≡ Ok place → IsDone s new (op.Check n map) place e → IsHasRead c l field q n h.device h.mark_of s new e
  has_read x s new e n place map h numbers granted done =
      from_own c l s.model
      (λ y z. IsSetUp y (setup_of y z (other_policy field q)) h.device → HasOneMark y h.device h.mark_of → field < length y.fields
      → HasNumbers y (length z.maps) (op.Check n map) → IsHasRead y z field q n h.device h.mark_of s new e) h.chip h.layout
      (λ set_up marked there numbers. read_own s new field q h.device e n place h.model h.told set_up h.mark_of marked there map numbers granted done)
      h.set_up h.each_mark inside numbers

  -- what an access leaves is seen
  seen_after : (x y : Sides) (s new : Scene) (n : ℕ) (r : Register) → (h : Seen x s) → (a : IsAccessTo c l field q n h.device h.mark_of new r)
      → bit (slice_index a.next.bits (reg_of c field)) b ≡ y.held → marks_at h.mark_of n r.spent (reg_of c field) (field - first_of c (reg_of c field)) ≡ y.marked
      → bit (mirrored_of new.model.mirror (reg_of c field)) b ≡ y.believed
      → marks_in c new.model.mirror.spent (reg_of c field) (field - first_of c (reg_of c field)) ≡ y.spent → Seen y new
  seen_after x y s new n r h a held marked bits marks = record {
    device = a.next;
    scene_is = a.scene_is;
    set_up = a.left.set_up;
    mark_of = marks_at h.mark_of n r.spent;
    each_mark = a.left.each_mark;
    held = held;
    marked = marked;
    believed = bits;
    spent = marks;
  }

  own_marks : (h_marks : ℕ → ℕ → Bool) (spent : ℕ → Bool)
      → marks_at h_marks (reg_of c field) spent (reg_of c field) (field - first_of c (reg_of c field)) ≡ spent (field - first_of c (reg_of c field))
  own_marks h_marks spent = ap (λ t. (if t then spent else h_marks reg) k) (eq-eqb reg reg refl)

  write_own : (x : Sides) (s new : Scene) (e : Event) (map : Option ℕ) (value place : ℕ) → Seen x s → HasNumbers c (length l.maps) (op.Write (reg_of c field) map value)
      → grant s.model (op.Write (reg_of c field) map value) ≡ Ok place → Performs s new (op.Write (reg_of c field) map value) e
      → Seen (written (goes_by q) (field_of c field).shape.policy (bit value b) x) new
  write_own x s new e map value place h numbers granted performs =
      let w = wrote x s new e reg place map value h numbers granted (done_of s new (op.Write reg map value) place e granted performs) in
      let r = held_in h.device h.mark_of reg in
      let v = bit value b in
      let both = wrote_bit c reg k b value s.model.mirror new.model.mirror at_bit (built_of x s h) w.predicted in
      seen_after x (written (goes_by q) p v x) s new reg (wstep its_fs every value r) h w.access
      (ap (λ z. bit z b) w.access.left.bits ∙ bit-wstep its_fs value r b is.low ∙ ap (λ o. written_bit its_fs every r.spent o (bit r.bits b) v) its_at
      ∙ ap (λ a. after_write a (bit r.bits b) v (h.mark_of reg k)) q_is ∙ ap (λ z. after_write q z v (h.mark_of reg k)) h.held ∙ ap (after_write q x.held v) h.marked)
      (own_marks h.mark_of (wstep its_fs every value r).spent ∙ spent-wstep its_fs every value r k ∙ ap (λ a. h.mark_of reg k || spends_mark a) q_is
      ∙ ap (λ z. z || spends_mark q) h.marked)
      (both.0 ∙ ap (λ a. after_write a (bit (mirrored_of s.model.mirror reg) b) v (marks_in c s.model.mirror.spent reg k)) p_is
      ∙ ap (λ z. after_write p z v (marks_in c s.model.mirror.spent reg k)) h.believed ∙ ap (after_write p x.believed v) h.spent)
      (both.1 ∙ ap (λ a. marks_in c s.model.mirror.spent reg k || spends_mark a) p_is ∙ ap (λ z. z || spends_mark p) h.spent)

  check_own : (x : Sides) (s new : Scene) (e : Event) (map : Option ℕ) (place : ℕ) → Seen x s → HasNumbers c (length l.maps) (op.Check (reg_of c field) map)
      → grant s.model (op.Check (reg_of c field) map) ≡ Ok place → Performs s new (op.Check (reg_of c field) map) e
      → Seen (checked (goes_by q) (field_of c field).shape.policy x) new × (differs (goes_by q) x ≡ true → IsNamedBy c field e)
  check_own x s new e map place h numbers granted performs =
      let w = has_read x s new e reg place map h numbers granted (done_of s new (op.Check reg map) place e granted performs) in
      let r = held_in h.device h.mark_of reg in
      let read = ranswer its_fs every r in
      let read_so : bit read b ≡ value_read q x.held =
      bit-ranswer its_fs every r b is.low ∙ ap (λ o. shown_bit its_fs every o (bit r.bits b)) its_at ∙ ap (λ a. value_read a (bit r.bits b)) q_is ∙ ap (value_read q) h.held in
      let both = read_bit c reg k b read s.model.mirror new.model.mirror at_bit readable (built_of x s h) w.predicted in (
        seen_after x (checked (goes_by q) p x) s new reg (rstep its_fs every r) h w.access
            (ap (λ z. bit z b) w.access.left.bits ∙ bit-rstep its_fs r b is.low ∙ ap (λ o. left_bit its_fs every o (bit r.bits b)) its_at
            ∙ ap (λ a. after_read a (bit r.bits b)) q_is ∙ ap (after_read q) h.held)
            (own_marks h.mark_of (rstep its_fs every r).spent ∙ spent-rstep its_fs every r k ∙ h.marked)
            (both.0 ∙ ap (λ a. after_read a (bit read b)) p_is ∙ ap (after_read p) read_so)
            (both.1 ∙ h.spent),
        λ shown. names_read c field b i s new (op.Check reg map) e read is h.chip refl w.checks performs w.ends
            (λ equal. apart_by (value_read q x.held) x.believed shown (sym read_so ∙ equal ∙ h.believed)),
      )

  -- of another register
  other_marks : (h_marks : ℕ → ℕ → Bool) (n : ℕ) (spent : ℕ → Bool) → (reg_of c field ≡ n → ⊥)
      → marks_at h_marks n spent (reg_of c field) (field - first_of c (reg_of c field)) ≡ h_marks (reg_of c field) (field - first_of c (reg_of c field))
  other_marks h_marks n spent other = ap (λ t. (if t then spent else h_marks reg) k) (ne_eqb reg n other)

  write_other : (x : Sides) (s new : Scene) (e : Event) (n place : ℕ) (map : Option ℕ) (value : ℕ) → (reg_of c field ≡ n → ⊥) → Seen x s
      → HasNumbers c (length l.maps) (op.Write n map value) → grant s.model (op.Write n map value) ≡ Ok place → IsDone s new (op.Write n map value) place e → Seen x new
  write_other x s new e n place map value other h numbers granted done =
      let w = wrote x s new e n place map value h numbers granted done in
      let r = held_in h.device h.mark_of n in
      let same = other_same c n reg s.model.mirror new.model.mirror r (write_step every value) sound is.reg_in other (built_of x s h) w.predicted in
      seen_after x x s new n (wstep (fields_of (having c field q) n) every value r) h w.access
      (ap (λ z. bit z b) (w.access.left.others reg other) ∙ h.held) (other_marks h.mark_of n _ other ∙ h.marked)
      (ap (λ z. bit z b) (sym same.bits) ∙ h.believed) (sym (same.marks k is.inside) ∙ h.spent)

  check_other : (x : Sides) (s new : Scene) (e : Event) (n place : ℕ) (map : Option ℕ) → (reg_of c field ≡ n → ⊥) → Seen x s
      → HasNumbers c (length l.maps) (op.Check n map) → grant s.model (op.Check n map) ≡ Ok place → IsDone s new (op.Check n map) place e → Seen x new
  check_other x s new e n place map other h numbers granted done =
      let w = has_read x s new e n place map h numbers granted done in
      let r = held_in h.device h.mark_of n in
      let read = ranswer (fields_of (having c field q) n) every r in
      let f = w.predicted in
      seen_after x x s new n (rstep (fields_of (having c field q) n) every r) h w.access
      (ap (λ z. bit z b) (w.access.left.others reg other) ∙ h.held) (other_marks h.mark_of n _ other ∙ h.marked)
      (ap (λ (m : MirrorData). bit (mirrored_of m reg) b) f.is ∙ ap (λ z. bit z b) (read_apart c n read f.fields reg s.model.mirror other) ∙ h.believed)
      (ap (λ (m : MirrorData). marks_in c m.spent reg k) f.is ∙ ap (λ xs. marks_in c xs reg k) (read_spent c n read f.fields s.model.mirror) ∙ h.spent)

  -- ---- by the backdoor

  -- a deposit into a register, and what is believed with it
  deposit : (x y : Sides) (s new : Scene) (o : Op) (e : Event) (n place value : ℕ) (mirror : MirrorData) → (h : Seen x s)
      → HasNumbers s.model.chip (length s.model.layout.maps) o → IsDone s new o place e
      → new.device ≡ Some (poked h.device (cell.Reg n) value) → new.model ≡ record s.model { mirror = mirror }
      → bit (slice_index (poked h.device (cell.Reg n) value).bits (reg_of c field)) b ≡ y.held → y.marked ≡ x.marked
      → bit (mirrored_of mirror (reg_of c field)) b ≡ y.believed
      → marks_in c mirror.spent (reg_of c field) (field - first_of c (reg_of c field)) ≡ y.spent → Seen y new
  unfolding poked
  deposit x y s new o e n place value mirror h numbers done goes model held same bits marks =
      let d = h.device in record {
        device = poked d (cell.Reg n) value;
        scene_is = record {
          model = subst IsModel (sym done.model) (outcome_model s.model o place done.sampled e.trace h.model numbers);
          chip = ap (λ (m : ModelData). m.chip) model ∙ h.chip;
          layout = ap (λ (m : ModelData). m.layout) model ∙ h.layout;
          told = goes;
        };
        set_up = record { setup = h.set_up.setup; beats = h.set_up.beats; bits = length-set d.bits n _ ∙ h.set_up.bits; marks = h.set_up.marks };
        mark_of = h.mark_of;
        each_mark = h.each_mark;
        held = held;
        marked = h.marked ∙ sym same;
        believed = ap (λ (m : ModelData). bit (mirrored_of m.mirror reg) b) model ∙ bits;
        spent = ap (λ (m : ModelData). marks_in c m.mirror.spent reg k) model ∙ marks;
      }

  -- of this register
  own_deposited : (x : Sides) (s : Scene) (value : ℕ) → (h : Seen x s)
      → bit (slice_index (poked h.device (cell.Reg (reg_of c field)) value).bits (reg_of c field)) b ≡ bit value b
  own_deposited x s value h =
      let d = h.device in
      let owned : is_some (field_at d.setup reg b) ≡ true =
      ap (λ (u : Setup). is_some (field_at u reg b)) h.set_up.setup ∙ ap is_some (same_field c l field q reg b) ∙ is_field c l reg b sound is.reg_in ∙ ap is_some is.at in
      deposited_bit d reg b value (subst (λ n. reg < n) (sym h.set_up.bits) is.reg_in) is.low owned
      ∙ ap (λ (u : Setup). or_else (stuck_at u reg b) (bit value b)) h.set_up.setup ∙ ap (λ o. or_else o (bit value b)) (none_stuck c l field q reg b)

  own_numbers : (x : Sides) (s : Scene) → Seen x s → reg_of c field < length s.model.chip.regs
  own_numbers x s h = subst (λ (y : ChipData). reg_of c field < length y.regs) (sym h.chip) is.reg_in

  back_check_own : (x : Sides) (s new : Scene) (e : Event) → Seen x s → grant s.model (op.BackCheck (reg_of c field)) ≡ Ok 0
      → Performs s new (op.BackCheck (reg_of c field)) e
      → Seen (checked_behind (goes_by q) (field_of c field).shape.policy x) new × (differs_behind x ≡ true → IsNamedBy c field e)
  back_check_own x s new e h granted performs =
      let m = s.model in
      let a = policy_in fs k in
      let done = done_of s new (op.BackCheck reg) 0 e granted performs in
      let by = alone_by s new (op.BackCheck reg) e 0 h.device done h.told refl in
      let held_so : bit done.sampled b ≡ x.held = ap (λ n. bit n b) (done.found h.device h.told ∙ peeked_is h.device reg) ∙ h.held in
      let read = back_value m reg done.sampled in
      let left = back_left m reg done.sampled in
      let read_so : bit read b ≡ x.held =
      ap (λ (y : ChipData). bit (shown (fields_of y reg) (owned (fields_of y reg) done.sampled)) b) h.chip ∙ shown_there fs k b done.sampled is.low is.at
      ∙ ap (value_read a) held_so ∙ shows a x.held readable in
      let left_so : bit left b ≡ after_read p x.held =
      ap (λ (y : ChipData). bit (left_by_read (fields_of y reg) (owned (fields_of y reg) done.sampled)) b) h.chip ∙ left_there fs k b done.sampled is.low is.at
      ∙ ap (after_read a) held_so ∙ ap (λ r. after_read r x.held) p_is in
      let both = back_read_bit c reg k b read m.mirror at_bit readable (built_of x s h) in
      let believes = λ (y : ChipData). predict_read y reg read every_field m.mirror in (
        deposit x (checked_behind (goes_by q) p x) s new (op.BackCheck reg) e reg 0 left (believes m.chip) h (own_numbers x s h) done by.told by.model
            (own_deposited x s left h ∙ left_so) refl
            (ap (λ y. bit (mirrored_of (believes y) reg) b) h.chip ∙ both.0 ∙ ap (after_read a) read_so ∙ ap (λ r. after_read r x.held) p_is)
            (ap (λ y. marks_in c (believes y).spent reg k) h.chip ∙ both.1 ∙ h.spent),
        λ shown. names_read c field b i s new (op.BackCheck reg) e read is h.chip refl
            (subst (λ o. ChecksRegister o reg) (sym (ap (λ (y : Event). y.op) done.event_is)) refl) performs (ap (λ (y : Event). y.end) done.event_is)
            (λ equal. apart_by x.held x.believed shown (sym read_so ∙ equal ∙ h.believed)),
      )

  back_write_own : (x : Sides) (s new : Scene) (e : Event) (value : ℕ) → Seen x s → grant s.model (op.BackWrite (reg_of c field) value) ≡ Ok 0
      → Performs s new (op.BackWrite (reg_of c field) value) e
      → Seen (written_behind (goes_by q) (field_of c field).shape.policy (bit value b) x) new
  back_write_own x s new e value h granted performs =
      let m = s.model in
      let a = policy_in fs k in
      let done = done_of s new (op.BackWrite reg value) 0 e granted performs in
      let by = alone_by s new (op.BackWrite reg value) e 0 h.device done h.told refl in
      let held_so : bit done.sampled b ≡ x.held = ap (λ n. bit n b) (done.found h.device h.told ∙ peeked_is h.device reg) ∙ h.held in
      let made = back_written m reg value done.sampled in
      let made_so : bit made b ≡ after_write p x.held (bit value b) x.spent =
      ap (λ (y : ChipData). bit (raw_written (fields_of y reg) (marks_in y m.mirror.spent reg) (owned (fields_of y reg) done.sampled) value) b) h.chip
      ∙ made_there fs (marks_in c m.mirror.spent reg) k b done.sampled value is.low is.at
      ∙ ap (λ v. after_write a v (bit value b) (marks_in c m.mirror.spent reg k)) held_so ∙ ap (after_write a x.held (bit value b)) h.spent
      ∙ ap (λ r. after_write r x.held (bit value b) x.spent) p_is in
      let both = raw_bit c reg k b made m.mirror at_bit (built_of x s h) in
      let believes = λ (y : ChipData). predict_raw y reg made m.mirror in
      deposit x (written_behind (goes_by q) p (bit value b) x) s new (op.BackWrite reg value) e reg 0 made (believes m.chip) h (own_numbers x s h) done by.told by.model
      (own_deposited x s made h ∙ made_so) refl
      (ap (λ y. bit (mirrored_of (believes y) reg) b) h.chip ∙ both.0 ∙ made_so) (ap (λ y. marks_in c (believes y).spent reg k) h.chip ∙ both.1 ∙ h.spent)

  -- of another one
  other_deposited : (x : Sides) (s : Scene) (n value : ℕ) → (reg_of c field ≡ n → ⊥) → (h : Seen x s)
      → bit (slice_index (poked h.device (cell.Reg n) value).bits (reg_of c field)) b ≡ x.held
  unfolding poked
  other_deposited x s n value other h = ap (λ z. bit z b) (get_or-set_other h.device.bits n reg _ 0 other) ∙ h.held

  back_check_other : (x : Sides) (s new : Scene) (e : Event) (n place : ℕ) → (reg_of c field ≡ n → ⊥) → Seen x s → n < length c.regs
      → IsDone s new (op.BackCheck n) place e → Seen x new
  back_check_other x s new e n place other h numbers done =
      let m = s.model in
      let by = alone_by s new (op.BackCheck n) e place h.device done h.told refl in
      let read = back_value m n done.sampled in
      deposit x x s new (op.BackCheck n) e n place (back_left m n done.sampled) (predict_read m.chip n read every_field m.mirror) h
      (subst (λ (y : ChipData). n < length y.regs) (sym h.chip) numbers) done by.told by.model (other_deposited x s n (back_left m n done.sampled) other h) refl
      (ap (λ z. bit z b) (read_apart m.chip n read every_field reg m.mirror other) ∙ h.believed)
      (ap (λ xs. marks_in c xs reg k) (read_spent m.chip n read every_field m.mirror) ∙ h.spent)

  back_write_other : (x : Sides) (s new : Scene) (e : Event) (n value place : ℕ) → (reg_of c field ≡ n → ⊥) → Seen x s → n < length c.regs
      → IsDone s new (op.BackWrite n value) place e → Seen x new
  back_write_other x s new e n value place other h numbers done =
      let m = s.model in
      let by = alone_by s new (op.BackWrite n value) e place h.device done h.told refl in
      let made = back_written m n value done.sampled in
      deposit x x s new (op.BackWrite n value) e n place made (predict_raw m.chip n made m.mirror) h
      (subst (λ (y : ChipData). n < length y.regs) (sym h.chip) numbers) done by.told by.model (other_deposited x s n made other h) refl
      (ap (λ z. bit z b) (raw_other m.chip n made reg m.mirror other) ∙ h.believed)
      (ap (λ xs. marks_in c xs reg k) (raw_spent m.chip n made m.mirror) ∙ h.spent)

  other_own : (x : Sides) (s new : Scene) (e : Event) (o : Op) (n : ℕ) → (reg_of c field ≡ n → ⊥) → Reaches o n → HasNumbers c (length l.maps) o → Seen x s
      → Performs s new o e → Seen x new
  other_own x s new e o n other reaches numbers h performs = by o reaches numbers performs
    where
      away : (j : ℕ) → j ≡ n → reg_of c field ≡ j → ⊥
      away j same own = other (own ∙ same)

      by : (o : Op) → Reaches o n → HasNumbers c (length l.maps) o → Performs s new o e → Seen x new
      by (op.Write j map value) reaches numbers performs =
          either_grant (Seen x) s new (op.Write j map value) e (grant s.model (op.Write j map value)) refl h
          (λ place granted done. write_other x s new e j place map value (away j reaches) h numbers granted done) performs
      by (op.Check j map) reaches numbers performs =
          either_grant (Seen x) s new (op.Check j map) e (grant s.model (op.Check j map)) refl h
          (λ place granted done. check_other x s new e j place map (away j reaches) h numbers granted done) performs
      by (op.BackWrite j value) reaches numbers performs =
          either_grant (Seen x) s new (op.BackWrite j value) e (grant s.model (op.BackWrite j value)) refl h
          (λ place granted done. back_write_other x s new e j value place (away j reaches) h numbers done) performs
      by (op.BackCheck j) reaches numbers performs =
          either_grant (Seen x) s new (op.BackCheck j) e (grant s.model (op.BackCheck j)) refl h
          (λ place granted done. back_check_other x s new e j place (away j reaches) h numbers done) performs
      by _ reaches numbers performs = absurd reaches

  pub policy_acts : ActsSo c l field b (goes_by q) (field_of c field).shape.policy (SeenOther c l field q (reg_of c field) (field - first_of c (reg_of c field)) b)
  policy_acts = record {
    parts = λ x s h. record { model = h.model; chip = h.chip; layout = h.layout };
    believes = λ x s h. h.believed;
    writes = write_own;
    checks = check_own;
    checks_behind = back_check_own;
    writes_behind = back_write_own;
    others = other_own;
  }
