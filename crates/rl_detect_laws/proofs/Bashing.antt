-- Writes and checks of registers over a device with one stuck bit.
use Rattle.std.proofs.Common.{◌≡◌, ◌≢◌, ◌⊎◌, ℕ, ◌^◌, ◌<◌, bit_xor, Bool, true, false, not, List, [], ◌∷◌, length, All, if◌then◌else◌}
use Rattle.std.proofs.Common.{Option, None, Some, option_map, Ok, Err, MatchResult, refl, sym, ap, ◌∙◌, subst, eqb, inl, inr}
use Rattle.std.specs.Prelude.{slice_index}
use Rattle.std.specs.Option.{option_map_or}
use Rattle.std.proofs.lemmas.List.{get_or-replicate, get_or-set_same, length-replicate}
use Rattle.std.proofs.lemmas.Bool.{cases_eq}
use Rattle.std.proofs.lemmas.List.Elements.{All-nil, All-cons, All-head, All-tail, All-map}
use Rattle.std.proofs.lemmas.Nat.Bits.{bit_at-pow_same, bit_at-pow_other}
use Rattle.rl_policy.proofs.BitLemmas.{bit-from_bits, bit-xor, bit-zero}
use Rattle.rl_policy.specs.Bits.{bit}
use Rattle.rl_policy.specs.Table.{after_write, after_read, is_write_only, either_alone}
use Rattle.rl_policy.specs.declared.policy.Policy.{Policy}
use Rattle.rl_bus.specs.declared.op.Answer.{Answer}
use Rattle.rl_bus.specs.declared.op.BusOp.{BusOp}
use Rattle.rl_bus.specs.Setup.{Setup, stuck_at, or_else}
use Rattle.rl_bus.specs.Standing.{Standing, standing_at}
use Rattle.rl_bus.specs.State.{State, answer_of, state_after}
use Rattle.rl_model.specs.Rows.{FieldSeen, ChipData}
use Rattle.rl_model.specs.Chip.{IsSound as IsChip}
use Rattle.rl_model.specs.Fields.{fields_of, policy_in, place_at}
use Rattle.rl_model.specs.declared.rows.Item.TheVariants.{Reg}
use Rattle.rl_map.specs.Layout.{LayoutData, IsSound as IsLayout, port_at, place_at as row_at}
use Rattle.rl_map.specs.Maps.{IsBuiltWith}
use Rattle.rl_map.specs.Tables.{setup_of}
use Rattle.rl_split.specs.Access.{all_bytes, op_of, sent_of, ops_of}
use Rattle.rl_split.specs.Law.{no_flaws}
use Rattle.rl_split.specs.Runs.{answers_of, state_after_all as ops_after}
use Rattle.rl_split.specs.Step.{Register, every, wstep, rstep, ranswer, written_bit, left_bit, shown_bit}
use Rattle.rl_split.proofs.Steps.{none_failed}
use Rattle.rl_mirror.specs.Mirror.{MirrorData, IsMirrorOf, mirrored_of}
use Rattle.rl_mirror.specs.Prediction.{predict_read, learned_by_read, learned_bit}
use Rattle.rl_mirror.specs.Reachable.{IsReachable}
use Rattle.rl_mirror.proofs.PlaceLemmas.{place_is}
use Rattle.rl_mirror.proofs.WordLemmas.{bit-word_by_field}
use Rattle.rl_access.specs.declared.event.End.TheVariants as end
use Rattle.rl_access.specs.declared.event.Event.{Event}
use Rattle.rl_access.specs.declared.event.Op.{Op}
use Rattle.rl_access.specs.declared.event.Op.TheVariants as op
use Rattle.rl_access.specs.declared.trace.TraceItem.{TraceItem}
use Rattle.rl_access.specs.Call.{Scene, IsDone, IsRefused, Performs}
use Rattle.rl_access.specs.Gathering.{IsPredictorOf}
use Rattle.rl_access.specs.Items.{item_of, took_item, items_of, failed_at, state_after_all, port_for, adapter_for}
use Rattle.rl_access.specs.Laws.{ChecksRegister}
use Rattle.rl_access.specs.Model.{ModelData, IsModel}
use Rattle.rl_access.specs.Operation.{register_of, HasNumbers}
use Rattle.rl_access.specs.Rules.{Grant, grant, sends, forgotten, forgetting, found_by, device_after, Outcome, or_error}
use Rattle.rl_access.proofs.Places.{place_size}
use Rattle.rl_access.proofs.Setups.{setup-state_after_all}
use Rattle.rl_plain.specs.Agree.{believed}
use Rattle.rl_plain.specs.OneStep.{IsAccess, Meets, write_step, step_of}
use Rattle.rl_plain.proofs.Accesses.{IsStepped}
use Rattle.rl_plain.proofs.Agreement.{here_same}
use Rattle.rl_plain.proofs.Answered.{answered, done_of}
use Rattle.rl_plain.proofs.EachAccess.{one_step}
use Rattle.rl_plain.proofs.Followed.{IsPredictedWrite, IsPredictedRead}
use Rattle.rl_plain.proofs.Granted.{way_found, place_for}
use Rattle.rl_plain.proofs.Kept.{step_kept}
use Rattle.rl_plain.proofs.Registers.{bit-ranswer}
use Rattle.rl_detect_laws.specs.Devices.{IsSetUp}
use Rattle.rl_detect_laws.proofs.Checks.{IsSceneOf, over, some_is, done_over, forgotten_built, from_own}
use Rattle.rl_detect_laws.proofs.DeafReads.{NoneStuck, all_plain}
use Rattle.rl_detect_laws.proofs.ReadsAlike.{IsReadOver, IsReadAlike, read_alike}
use Rattle.rl_detect_laws.proofs.StuckBit.{unstuck, plain, IsFirm, HoldsStuck, firm_holds, all_still}
use Rattle.rl_detect_laws.proofs.Twins.{AreAlike, items_alike, writes_alike}
use Rattle.rl_plain.proofs.NothingFound.{shows}

-- ---- what stands

-- without its stuck bit the setup is one without flaws
pub record IsStuckSetup (c : ChipData) (l : LayoutData) (t : Setup) (reg b : ℕ) (v : Bool) : Type 0 where
  pub plain : unstuck t ≡ setup_of c l no_flaws
  pub alone : IsFirm t reg b v
  pub reg_in : reg < length c.regs

-- a model of this chip and layout, and a device with this setup that holds the bit, with all beats 0
pub record Holding (c : ChipData) (l : LayoutData) (t : Setup) (reg b : ℕ) (v : Bool) (s : Scene) : Type 0 where
  pub device : State
  pub scene_is : IsSceneOf c l s device
  pub open scene_is use *
  pub set_up : IsSetUp c t device
  pub open set_up use *
  pub here : bit (slice_index device.bits reg) b ≡ v

pub holding_first : (t : Setup) (reg b : ℕ) (v : Bool) (s : Scene) (d : State) → IsModel s.model → s.device ≡ Some d → IsSetUp s.model.chip t d
    → bit (slice_index d.bits reg) b ≡ v → Holding s.model.chip s.model.layout t reg b v s
holding_first t reg b v s d ok told is here =
    record { device = d; scene_is = record { model = ok; chip = refl; layout = refl; told = told }; set_up = is; here = here }

-- ---- the operation over the device without it

-- a register with these bits and no mark
abbrev pub unmarked_bits : ℕ → Register
unmarked_bits bits = record { bits = bits; spent = λ k. false }

abbrev unmarked : State → ℕ → Register
unmarked d reg = unmarked_bits (slice_index d.bits reg)

-- devices with the same answers have the same items
pub items_same : (a : Standing) (x d : State) (port : ℕ) (ops : List BusOp) → answers_of x port ops ≡ answers_of d port ops → items_of a x port ops ≡ items_of a d port ops
items_same a x d port [] e = refl
items_same a x d port (op ∷ ops) e =
    let first : answer_of x port op ≡ answer_of d port op = cc in
    let rest : answers_of (state_after x port op) port ops ≡ answers_of (state_after d port op) port ops = cc in
    let item = item_of a port op (answer_of x port op) in
    let more = items_same (took_item a item) (state_after x port op) (state_after d port op) port ops rest in
    ap (λ (xs : List TraceItem). item ∷ (if (answer_of x port op).failed then [] else xs)) more
    ∙ ap (λ (y : Answer). let i = item_of a port op y in i ∷ (if y.failed then [] else items_of (took_item a i) (state_after d port op) port ops)) first

over_done : (s new : Scene) (o : Op) (place : ℕ) (e : Event) (d : State) → s.device ≡ Some d
    → answers_of (plain d) (port_for s.model.layout place) (sends s.model o place) ≡ answers_of d (port_for s.model.layout place) (sends s.model o place)
    → found_by (plain d) o ≡ found_by d o → device_after s.model o (found_by d o) e.trace (plain d) ≡ state_after_all (plain d) e.trace
    → (done : IsDone s new o place e) → IsDone (over s (plain d)) (over new (state_after_all (plain d) e.trace)) o place e
over_done s new o place e d told same found after done =
    done_over s new o place e d (plain d) (state_after_all (plain d) e.trace) told found
    (λ a. items_same a (plain d) d (port_for s.model.layout place) (sends s.model o place) same) after done

-- ---- an operation is a step of its register, and leaves what stands

abbrev Stepped : Scene → Scene → Op → (place n : ℕ) → Event → State → Type 0
Stepped s new o place n e d = IsStepped (over s (plain d)) (over new (state_after_all (plain d) e.trace)) o e place n (plain d) (unmarked d n)

-- the register then holds the bit so
record IsLeftSo (reg b : ℕ) (u : Bool) (x y : State) : Type 0 where
  bits : length y.bits ≡ length x.bits
  marks : length y.marks ≡ length x.marks
  here : bit (slice_index y.bits reg) b ≡ u

record IsBashed (s new : Scene) (t : Setup) (reg b : ℕ) (u : Bool) (o : Op) (place n : ℕ) (e : Event) (d : State) : Type 0 where
  stands : Holding s.model.chip s.model.layout t reg b u new
  stepped : Stepped s new o place n e d

kept_gathered : (failed : Option ℕ) (m : ModelData) (good : Outcome) → good.model.gathered ≡ m.gathered → (or_error failed m good).model.gathered ≡ m.gathered
kept_gathered None m good e = e
kept_gathered (Some k) m good e = refl

bashed : (s new : Scene) (t : Setup) (reg b : ℕ) (v u : Bool) (o : Op) (place n : ℕ) (e : Event) → IsStuckSetup s.model.chip s.model.layout t reg b v
    → (h : Holding s.model.chip s.model.layout t reg b v s) → IsAccess o → HasNumbers s.model.chip (length s.model.layout.maps) o
    → register_of s.model.chip o ≡ Some n → n < length s.model.chip.regs → grant s.model o ≡ Ok place → IsDone s new o place e
    → answers_of (plain h.device) (port_for s.model.layout place) (sends s.model o place) ≡ answers_of h.device (port_for s.model.layout place) (sends s.model o place)
    → found_by (plain h.device) o ≡ found_by h.device o → ((x : State) (k : ℕ) → device_after s.model o k e.trace x ≡ state_after_all x e.trace)
    → new.model.gathered ≡ forgotten s.model.layout place s.model.gathered
    → (Stepped s new o place n e h.device → IsLeftSo reg b u h.device (state_after_all h.device e.trace))
    → IsBashed s new t reg b u o place n e h.device
bashed s new t reg b v u o place n e is h access numbers register inside granted done same found after gathered leaves =
    let m = s.model in
    let c = m.chip in
    let l = m.layout in
    let d = h.device in
    let x = plain d in
    let next = state_after_all d e.trace in
    let meets : Meets (over s x) x n (unmarked d n) = record {
      model = h.model;
      told = refl;
      ready = record { setup = ap unstuck h.setup ∙ is.plain; beats = h.beats; bits = h.bits; marks = length-replicate (length d.marks) 0 ∙ h.marks };
      holds = record {
        bits = refl;
        marks = λ j k low at. ap (λ q. bit q j) (get_or-replicate (length d.marks) n 0 0 (subst (λ q. n < q) (sym h.marks) inside)) ∙ bit-zero j;
      };
    } in
    let st = one_step (over s x) (over new (state_after_all x e.trace)) o e place n x (unmarked d n) access numbers register meets granted
    (over_done s new o place e d h.told same found (after x (found_by d o)) done) in
    let alike : AreAlike d x = record { deaf = []; stuck = []; setup = refl; beats = refl; items = refl } in
    let beats : (state_after_all x e.trace).beats ≡ next.beats = (items_alike d x e.trace alike).beats in
    let came : state_after_all x e.trace ≡ st.stepped.after = some_is st.stepped.told in
    let left = leaves st in
    let kept = step_kept c n m.mirror new.model.mirror (unmarked d n) (step_of m o place) h.model.chip inside (record { built = h.model.mirror; reach = h.model.reach }) st.follows.mirror in
    let chip : new.model.chip ≡ c = st.follows.chip in
    let layout : new.model.layout ≡ l = st.follows.layout in
    record {
      stands = record {
        device = next;
        scene_is = record {
          model = record {
            chip = subst IsChip (sym chip) h.model.chip;
            layout = subst IsLayout (sym layout) h.model.layout;
            built = subst (λ y. IsBuiltWith new.model.layout y) (sym chip) (subst (λ y. IsBuiltWith y c) (sym layout) h.model.built);
            mirror = subst (λ y. IsMirrorOf y new.model.mirror) (sym chip) kept.built;
            reach = subst (λ y. IsReachable y new.model.mirror) (sym chip) kept.reach;
            predictor = subst (λ y. IsPredictorOf y new.model.gathered) (sym layout) (subst (IsPredictorOf l) (sym gathered)
                (forgotten_built (port_at l (row_at l place).port).explicit l m.gathered place h.model.predictor));
          };
          chip = chip;
          layout = layout;
          told = done.goes ∙ ap (option_map (device_after m o done.sampled e.trace)) h.told ∙ ap Some (after d done.sampled);
        };
        set_up = record {
          setup = setup-state_after_all d e.trace ∙ h.setup;
          beats = λ p a. ap (λ (f : ℕ → ℕ → ℕ). f p a) (sym beats) ∙ ap (λ (y : State). y.beats p a) came ∙ st.stepped.ready.beats p a;
          bits = left.bits ∙ h.bits;
          marks = left.marks ∙ h.marks;
        };
        here = left.here;
      };
      stepped = st;
    }

-- ---- a write, and a check

all_writes : (l : LayoutData) (place index chosen value : ℕ) → All (λ (o : BusOp). o.write ≡ true) (ops_of l place index chosen value true)
unfolding ops_of
all_writes l place index chosen value = All-map (λ (o : BusOp). o.write ≡ true) (op_of l place chosen value true) (sent_of l place index chosen) (λ k d low. refl)

all_reads : (l : LayoutData) (place index chosen : ℕ) → All (λ (o : BusOp). o.write ≡ false) (ops_of l place index chosen 0 false)
unfolding ops_of
all_reads l place index chosen = All-map (λ (o : BusOp). o.write ≡ false) (op_of l place chosen 0 false) (sent_of l place index chosen) (λ k d low. refl)

-- all are writes, or all are reads
abbrev AreOps : Bool → List BusOp → Type 0
AreOps w ops = All (λ (op : BusOp). op.write ≡ w) ops

abbrev AreItems : Bool → List TraceItem → Type 0
AreItems w items = All (λ (item : TraceItem). item.op.write ≡ w) items

unless_failed : (w f : Bool) (more : List TraceItem) → AreItems w more → AreItems w (if f then [] else more)
unless_failed w true more all = All-nil (λ (item : TraceItem). item.op.write ≡ w)
unless_failed w false more all = all

items_are : (w : Bool) (a : Standing) (d : State) (port : ℕ) (ops : List BusOp) → AreOps w ops → AreItems w (items_of a d port ops)
items_are w a d port [] all = All-nil (λ (item : TraceItem). item.op.write ≡ w)
items_are w a d port (op ∷ ops) all =
    let first = item_of a port op (answer_of d port op) in
    let more = items_of (took_item a first) (state_after d port op) port ops in
    All-cons (λ (item : TraceItem). item.op.write ≡ w) first (if first.answer.failed then [] else more) (All-head (λ (op : BusOp). op.write ≡ w) op ops all)
    (unless_failed w first.answer.failed more (items_are w (took_item a first) (state_after d port op) port ops (All-tail (λ (op : BusOp). op.write ≡ w) op ops all)))

wrote : (s new : Scene) (t : Setup) (reg b : ℕ) (v : Bool) (n : ℕ) (map : Option ℕ) (value place : ℕ) (e : Event) → IsStuckSetup s.model.chip s.model.layout t reg b v
    → (h : Holding s.model.chip s.model.layout t reg b v s) → HasNumbers s.model.chip (length s.model.layout.maps) (op.Write n map value)
    → grant s.model (op.Write n map value) ≡ Ok place → IsDone s new (op.Write n map value) place e
    → IsBashed s new t reg b v (op.Write n map value) place n e h.device
wrote s new t reg b v n map value place e is h numbers granted done =
    let d = h.device in
    let alike : AreAlike d (plain d) = record { deaf = []; stuck = []; setup = refl; beats = refl; items = refl } in
    let port = port_for s.model.layout place in
    let ops = sends s.model (op.Write n map value) place in
    let writes = all_writes s.model.layout place 0 _ value in
    let still = all_still t d reg b v e.trace is.alone h.setup
    (subst (AreItems true) (sym (done.answers d h.told)) (items_are true (standing_at s.adapters (adapter_for s.model.layout place)) d port ops writes)) in
    bashed s new t reg b v v (op.Write n map value) place n e is h tt numbers refl numbers.0 granted done (writes_alike d (plain d) port ops alike writes) refl (λ x k. refl)
    (ap (λ (m : ModelData). m.gathered) done.model ∙ kept_gathered (failed_at e.trace) (forgetting s.model place) _ refl)
    (λ st. record { bits = still.bits; marks = still.marks; here = still.here (subst (λ q. reg < q) (sym h.bits) is.reg_in) h.here })

-- a check leaves the bit where it is stuck, or of another register
abbrev pub Lasts : Setup → (reg b : ℕ) → Bool → (n : ℕ) → Type 0
Lasts t reg b v n = (stuck_at t reg b ≡ Some v) ⊎ (n ≡ reg → ⊥)

bit_lasts : (t : Setup) (d : State) (reg b : ℕ) (v : Bool) (n port : ℕ) (ops : List BusOp) (words : List ℕ) → IsReadOver d port n ops words → d.setup ≡ t → b < 64
    → Lasts t reg b v n → bit (slice_index d.bits reg) b ≡ v → bit (slice_index (ops_after d port ops).bits reg) b ≡ v
bit_lasts t d reg b v n port ops words over at low lasts so = by lasts (cases_eq n reg)
  where
    apart : (n ≡ reg → ⊥) → bit (slice_index (ops_after d port ops).bits reg) b ≡ v
    apart other = ap (λ x. bit x b) (over.others reg (λ same. other (sym same))) ∙ so

    by : Lasts t reg b v n → (n ≡ reg) ⊎ (n ≡ reg → ⊥) → bit (slice_index (ops_after d port ops).bits reg) b ≡ v
    by (inr other) at = apart other
    by (inl stuck) (inr other) = apart other
    by (inl stuck) (inl same) =
        let after = λ (q : ℕ). bit (slice_index (ops_after d port ops).bits q) b in
        ap after (sym same) ∙ sym (over.stuck b low)
        ∙ ap (λ o. or_else o (after n)) (ap (λ (u : Setup). stuck_at u n b) at ∙ ap (λ q. stuck_at t q b) same ∙ stuck)

-- what it leaves of the bit, by the reads and the step
abbrev LeavesBit : Scene → Scene → (reg b : ℕ) → Bool → (n : ℕ) → Option ℕ → (place : ℕ) → Event → State → Type 0
LeavesBit s new reg b u n map place e d =
    (words : List ℕ) → IsReadOver d (port_for s.model.layout place) n (sends s.model (op.Check n map) place) words
    → state_after_all d e.trace ≡ ops_after d (port_for s.model.layout place) (sends s.model (op.Check n map) place)
    → Stepped s new (op.Check n map) place n e d → bit (slice_index (state_after_all d e.trace).bits reg) b ≡ u

checked : (s new : Scene) (t : Setup) (reg b : ℕ) (v u : Bool) (n : ℕ) (map : Option ℕ) (place : ℕ) (e : Event) → IsStuckSetup s.model.chip s.model.layout t reg b v
    → (h : Holding s.model.chip s.model.layout t reg b v s) → LeavesBit s new reg b u n map place e h.device
    → HasNumbers s.model.chip (length s.model.layout.maps) (op.Check n map)
    → grant s.model (op.Check n map) ≡ Ok place → IsDone s new (op.Check n map) place e
    → IsBashed s new t reg b u (op.Check n map) place n e h.device
checked s new t reg b v u n map place e is h leaves numbers granted done =
    let m = s.model in
    let d = h.device in
    let port = port_for m.layout place in
    let ops = sends m (op.Check n map) place in
    let way = way_found m (Reg n) map false place granted in
    let holds = firm_holds t reg b v n (slice_index d.bits n) is.alone (λ same. ap (λ q. bit (slice_index d.bits q) b) same ∙ h.here) in
    let read : IsReadAlike d port n ops =
    subst (λ k. IsReadAlike d port n (ops_of m.layout place 0 (all_bytes k) 0 false)) (place_size m (Reg n) place h.model way.there)
    (read_alike m.chip m.layout d place n (place_for m n place false h.model way) (ap unstuck h.setup ∙ is.plain) h.beats (subst (λ q. n < q) (sym h.bits) numbers.0)
    (subst (λ (u : Setup). HoldsStuck u n (slice_index d.bits n)) (sym h.setup) holds)) in
    let fine = subst (All (λ a. a.failed ≡ false)) (sym read.over.answers) (none_failed read.words) in
    let after : state_after_all d e.trace ≡ ops_after d port ops =
    ap (state_after_all d) (done.answers d h.told) ∙ (answered (standing_at s.adapters (adapter_for m.layout place)) d port ops fine).state in
    bashed s new t reg b v u (op.Check n map) place n e is h tt numbers refl numbers.0 granted done read.alike refl (λ x k. refl)
    (ap (λ (m : ModelData). m.gathered) done.model ∙ kept_gathered (failed_at e.trace) (forgetting s.model place) _ refl)
    (λ st. record {
      bits = ap (λ (x : State). length x.bits) after ∙ read.over.bits;
      marks = ap (λ (x : State). length x.marks) after ∙ ap length read.over.marks;
      here = leaves read.words read.over after st;
    })

pub bit-rstep : (fs : List FieldSeen) (r : Register) (b : ℕ) → b < 64 → bit (rstep fs every r).bits b ≡ left_bit fs every (place_at fs b) (bit r.bits b)
unfolding rstep
bit-rstep fs r b low = bit-from_bits 64 (λ b. left_bit fs every (place_at fs b) (bit r.bits b)) b low

-- ---- of any chip and layout

-- after a write that was granted the value is believed to be written
pub record IsWritten (c : ChipData) (l : LayoutData) (t : Setup) (reg b : ℕ) (v : Bool) (s new : Scene) (n value : ℕ) : Type 0 where
  pub stands : Holding c l t reg b v new
  pub predicted : IsPredictedWrite c n every value s.model.mirror new.model.mirror

pub write_done : (c : ChipData) (l : LayoutData) (s new : Scene) (t : Setup) (reg b : ℕ) (v : Bool) (n : ℕ) (map : Option ℕ) (value place : ℕ) (e : Event)
    → IsStuckSetup c l t reg b v → Holding c l t reg b v s → HasNumbers c (length l.maps) (op.Write n map value) → grant s.model (op.Write n map value) ≡ Ok place
    → Performs s new (op.Write n map value) e → IsWritten c l t reg b v s new n value
write_done c l s new t reg b v n map value place e is h numbers granted performs =
    from_own c l s.model
    (λ x y. IsStuckSetup x y t reg b v → Holding x y t reg b v s → HasNumbers x (length y.maps) (op.Write n map value) → IsWritten x y t reg b v s new n value) h.chip h.layout
    (λ is h numbers.
    let st = wrote s new t reg b v n map value place e is h numbers granted (done_of s new (op.Write n map value) place e granted performs) in
    record { stands = st.stands; predicted = st.stepped.follows.mirror }) is h numbers

-- a check that was granted read what the register holds, which is then believed, and left the bit so
pub record IsCheckedTo (c : ChipData) (l : LayoutData) (t : Setup) (reg b : ℕ) (v u : Bool) (s new : Scene) (n : ℕ) (e : Event) : Type 0 where
  pub stands : Holding c l t reg b u new
  pub bits : ℕ
  pub held : n ≡ reg → bit bits b ≡ v
  pub predicted : IsPredictedRead c n every (ranswer (fields_of c n) every (unmarked_bits bits)) s.model.mirror new.model.mirror
  pub ends : e.end ≡ end.Value (ranswer (fields_of c n) every (unmarked_bits bits))
  pub checks : ChecksRegister e.op n

-- and left the bit as it was
abbrev pub IsChecked : ChipData → LayoutData → Setup → (reg b : ℕ) → Bool → (s new : Scene) → (n : ℕ) → Event → Type 0
IsChecked c l t reg b v s new n e = IsCheckedTo c l t reg b v v s new n e

checked_to : (s new : Scene) (t : Setup) (reg b : ℕ) (v u : Bool) (n : ℕ) (map : Option ℕ) (place : ℕ) (e : Event) → (h : Holding s.model.chip s.model.layout t reg b v s)
    → IsBashed s new t reg b u (op.Check n map) place n e h.device → IsCheckedTo s.model.chip s.model.layout t reg b v u s new n e
checked_to s new t reg b v u n map place e h st = record {
  stands = st.stands;
  bits = slice_index h.device.bits n;
  held = λ same. ap (λ q. bit (slice_index h.device.bits q) b) same ∙ h.here;
  predicted = st.stepped.follows.mirror;
  ends = st.stepped.stepped.ends;
  checks = subst (λ o. ChecksRegister o n) (sym (ap (λ (y : Event). y.op) st.stepped.event_is)) refl;
}

pub check_done : (c : ChipData) (l : LayoutData) (s new : Scene) (t : Setup) (reg b : ℕ) (v : Bool) (n : ℕ) (map : Option ℕ) (place : ℕ) (e : Event)
    → IsStuckSetup c l t reg b v → Lasts t reg b v n → Holding c l t reg b v s → HasNumbers c (length l.maps) (op.Check n map) → grant s.model (op.Check n map) ≡ Ok place
    → Performs s new (op.Check n map) e → IsChecked c l t reg b v s new n e
check_done c l s new t reg b v n map place e is lasts h numbers granted performs =
    from_own c l s.model
    (λ x y. IsStuckSetup x y t reg b v → Holding x y t reg b v s → HasNumbers x (length y.maps) (op.Check n map) → IsChecked x y t reg b v s new n e) h.chip h.layout
    (λ is h numbers.
    let d = h.device in
    let port = port_for s.model.layout place in
    let ops = sends s.model (op.Check n map) place in
    checked_to s new t reg b v v n map place e h
    (checked s new t reg b v v n map place e is h
    (λ words over after st. ap (λ (x : State). bit (slice_index x.bits reg) b) after ∙ bit_lasts t d reg b v n port ops words over h.setup is.alone.low lasts h.here)
    numbers granted (done_of s new (op.Check n map) place e granted performs))) is h numbers

-- of a register that is deaf alone it leaves the bit by the field's policy
pub check_deaf : (c : ChipData) (l : LayoutData) (s new : Scene) (t : Setup) (reg k b : ℕ) (v : Bool) (map : Option ℕ) (place : ℕ) (e : Event)
    → IsStuckSetup c l t reg b v → NoneStuck t → place_at (fields_of c reg) b ≡ Some k → Holding c l t reg b v s → HasNumbers c (length l.maps) (op.Check reg map)
    → grant s.model (op.Check reg map) ≡ Ok place → Performs s new (op.Check reg map) e
    → IsCheckedTo c l t reg b v (after_read (policy_in (fields_of c reg) k) v) s new reg e
check_deaf c l s new t reg k b v map place e is none at h numbers granted performs =
    from_own c l s.model
    (λ x y. IsStuckSetup x y t reg b v → place_at (fields_of x reg) b ≡ Some k → Holding x y t reg b v s → HasNumbers x (length y.maps) (op.Check reg map)
    → IsCheckedTo x y t reg b v (after_read (policy_in (fields_of x reg) k) v) s new reg e) h.chip h.layout
    (λ is at h numbers.
    let m = s.model in
    let d = h.device in
    let fs = fields_of m.chip reg in
    let p = policy_in fs k in
    let done = done_of s new (op.Check reg map) place e granted performs in
    let reads : AreItems false e.trace =
    subst (AreItems false) (sym (done.answers d h.told))
    (items_are false (standing_at s.adapters (adapter_for m.layout place)) d (port_for m.layout place) (sends m (op.Check reg map) place) (all_reads m.layout place 0 _)) in
    let same = all_plain d e.trace (subst NoneStuck (sym h.setup) none) reads in
    checked_to s new t reg b v (after_read p v) reg map place e h
    (checked s new t reg b v (after_read p v) reg map place e is h
    (λ words over after st.
    ap (λ (x : State). bit (slice_index x.bits reg) b) (sym same ∙ some_is st.stepped.told) ∙ ap (λ x. bit x b) st.stepped.holds.bits
    ∙ bit-rstep fs (unmarked d reg) b is.alone.low ∙ ap (λ o. left_bit fs every o (bit (slice_index d.bits reg) b)) at ∙ ap (after_read p) h.here)
    numbers granted done)) is at h numbers

-- refused or done, they leave what stands
after_grant : (c : ChipData) (l : LayoutData) (t : Setup) (reg b : ℕ) (v : Bool) (s new : Scene) (o : Op) (e : Event) (g : Grant) → grant s.model o ≡ g
    → Holding c l t reg b v s → ((place : ℕ) → grant s.model o ≡ Ok place → Holding c l t reg b v new)
    → MatchResult g (λ place. IsDone s new o place e) (λ why. IsRefused s new o why e) → Holding c l t reg b v new
after_grant c l t reg b v s new o e (Ok place) granted h done is = done place granted
after_grant c l t reg b v s new o e (Err why) granted h done refused = subst (Holding c l t reg b v) (sym refused.unchanged) h

pub write_stays : (c : ChipData) (l : LayoutData) (t : Setup) (reg b : ℕ) (v : Bool) (n : ℕ) (map : Option ℕ) (value : ℕ) → IsStuckSetup c l t reg b v
    → HasNumbers c (length l.maps) (op.Write n map value) → (s new : Scene) (e : Event) → Holding c l t reg b v s → Performs s new (op.Write n map value) e
    → Holding c l t reg b v new
write_stays c l t reg b v n map value is numbers s new e h performs =
    after_grant c l t reg b v s new (op.Write n map value) e (grant s.model (op.Write n map value)) refl h
    (λ place granted. (write_done c l s new t reg b v n map value place e is h numbers granted performs).stands) performs

pub check_stays : (c : ChipData) (l : LayoutData) (t : Setup) (reg b : ℕ) (v : Bool) (n : ℕ) (map : Option ℕ) → IsStuckSetup c l t reg b v → Lasts t reg b v n
    → HasNumbers c (length l.maps) (op.Check n map) → (s new : Scene) (e : Event) → Holding c l t reg b v s → Performs s new (op.Check n map) e
    → Holding c l t reg b v new
check_stays c l t reg b v n map is lasts numbers s new e h performs =
    after_grant c l t reg b v s new (op.Check n map) e (grant s.model (op.Check n map)) refl h
    (λ place granted. (check_done c l s new t reg b v n map place e is lasts h numbers granted performs).stands) performs

-- ---- the mirrored bit

pub bit-wstep : (fs : List FieldSeen) (word : ℕ) (r : Register) (b : ℕ) → b < 64
    → bit (wstep fs every word r).bits b ≡ written_bit fs every r.spent (place_at fs b) (bit r.bits b) (bit word b)
unfolding wstep
bit-wstep fs word r b low = bit-from_bits 64 (λ b. written_bit fs every r.spent (place_at fs b) (bit r.bits b) (bit word b)) b low

pub written_there : (c : ChipData) (n k b value : ℕ) (old new : MirrorData) → IsChip c → n < length c.regs → IsMirrorOf c old → b < 64 → place_at (fields_of c n) b ≡ Some k
    → IsPredictedWrite c n every value old new
    → bit (mirrored_of new n) b ≡ after_write (policy_in (fields_of c n) k) (bit (mirrored_of old n) b) (bit value b) ((believed c old n).spent k)
written_there c n k b value old new sound inside built low at f =
    ap (λ m. bit m b) (sym (here_same c n old new (write_step every value) sound inside built f).bits)
    ∙ bit-wstep (fields_of c n) value (believed c old n) b low
    ∙ ap (λ o. written_bit (fields_of c n) every (believed c old n).spent o (bit (mirrored_of old n) b) (bit value b)) at

learned : (p : Policy) (x kept : Bool) → is_write_only p ≡ false → learned_bit p x kept ≡ after_read p x
learned p x kept readable = ap (λ t. if t then kept else after_read p x) readable

mirrored_read : (c : ChipData) (n read fields : ℕ) (m : MirrorData) → n < length m.mirrored
    → mirrored_of (predict_read c n read fields m) n ≡ learned_by_read (fields_of c n) (bit fields) read (mirrored_of m n)
unfolding predict_read
mirrored_read c n read fields m inside = get_or-set_same m.mirrored n (learned_by_read (fields_of c n) (bit fields) read (mirrored_of m n)) 0 inside

learned_there : (fs : List FieldSeen) (fields read kept k b : ℕ) → b < 64 → place_at fs b ≡ Some k → bit fields k ≡ true → is_write_only (policy_in fs k) ≡ false
    → bit (learned_by_read fs (bit fields) read kept) b ≡ after_read (policy_in fs k) (bit read b)
unfolding learned_by_read
learned_there fs fields read kept k b low at chosen readable =
    bit-word_by_field fs (λ k b. if bit fields k then learned_bit (policy_in fs k) (bit read b) (bit kept b) else bit kept b) b low
    ∙ ap (λ o. option_map_or (λ k. if bit fields k then learned_bit (policy_in fs k) (bit read b) (bit kept b) else bit kept b) o false) at
    ∙ ap (λ t. if t then learned_bit (policy_in fs k) (bit read b) (bit kept b) else bit kept b) chosen
    ∙ learned (policy_in fs k) (bit read b) (bit kept b) readable

pub read_there : (c : ChipData) (n k b read : ℕ) (old new : MirrorData) → n < length c.regs → IsMirrorOf c old → b < 64 → place_at (fields_of c n) b ≡ Some k
    → is_write_only (policy_in (fields_of c n) k) ≡ false → IsPredictedRead c n every read old new
    → bit (mirrored_of new n) b ≡ after_read (policy_in (fields_of c n) k) (bit read b)
read_there c n k b read old new inside built low at readable f =
    ap (λ (m : MirrorData). bit (mirrored_of m n) b) f.is
    ∙ ap (λ x. bit x b) (mirrored_read c n read f.fields old (subst (λ q. n < q) (sym built.registers) inside))
    ∙ learned_there (fields_of c n) f.fields read (mirrored_of old n) k b low at (sym (f.are.same k (place_is (fields_of c n) b k at).0)) readable

-- what is read of it
pub answered_there : (fs : List FieldSeen) (k b bits : ℕ) → b < 64 → place_at fs b ≡ Some k → is_write_only (policy_in fs k) ≡ false
    → bit (ranswer fs every (unmarked_bits bits)) b ≡ bit bits b
answered_there fs k b bits low at readable =
    bit-ranswer fs every (unmarked_bits bits) b low ∙ ap (λ o. shown_bit fs every o (bit bits b)) at ∙ shows (policy_in fs k) (bit bits b) readable

-- ---- the word that is written

either_false : (x : Bool) → either_alone x false ≡ x
either_false true = refl
either_false false = refl

either_true : (x : Bool) → either_alone x true ≡ not x
either_true true = refl
either_true false = refl

pow_bit : (b : ℕ) → bit (2 ^ b) b ≡ true
unfolding bit
pow_bit b = ap (λ n. eqb n 1) (bit_at-pow_same b)

pub turned_bit : (x b : ℕ) → bit (bit_xor x (2 ^ b)) b ≡ not (bit x b)
turned_bit x b = bit-xor x (2 ^ b) b ∙ ap (either_alone (bit x b)) (pow_bit b) ∙ either_true (bit x b)

no_pow_bit : (j b : ℕ) → j ≢ b → bit (2 ^ j) b ≡ false
unfolding bit
no_pow_bit j b other = ap (λ n. eqb n 1) (bit_at-pow_other j b (λ same. other (sym same)))

pub other_bit : (x j b : ℕ) → j ≢ b → bit (bit_xor x (2 ^ j)) b ≡ bit x b
other_bit x j b other = bit-xor x (2 ^ j) b ∙ ap (either_alone (bit x b)) (no_pow_bit j b other) ∙ either_false (bit x b)
