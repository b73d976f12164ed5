-- Over a device with deaf items: no access of the walk changes a location of a deaf memory, and its check is marked.
use Rattle.std.proofs.Common.{◌≡◌, ◌≢◌, ◌⊎◌, ℕ, zero, suc, ◌+◌, ◌*◌, ◌^◌, ◌<◌, ◌==◌, eq-eqb, ne_eqb, Bool, true, false, ◌&&◌, List, [], ◌∷◌, length, map}
use Rattle.std.proofs.Common.{replicate, All, Option, None, Some, option_map, Ok, Err, MatchResult, if◌then◌else◌, refl, sym, ap, ◌∙◌, subst, inl, inr, arith}
use Rattle.std.specs.Prelude.{slice_index, sum_by}
use Rattle.std.proofs.lemmas.Bool.{and_parts, cases_eq}
use Rattle.std.proofs.lemmas.List.{get_or-replicate, length-replicate}
use Rattle.std.proofs.lemmas.List.Elements.{All-map}
use Rattle.std.proofs.lemmas.Nat.{pow_pos}
use Rattle.rl_bus.specs.declared.op.Answer.{Answer}
use Rattle.rl_bus.specs.declared.op.BusOp.{BusOp}
use Rattle.rl_bus.specs.declared.table.Cell.TheVariants.{Loc}
use Rattle.rl_bus.specs.declared.table.ItemRow.{ItemRow}
use Rattle.rl_bus.specs.Setup.{Setup, location, is_deaf}
use Rattle.rl_bus.specs.Standing.{standing_at}
use Rattle.rl_bus.specs.State.{State}
use Rattle.rl_model.specs.Rows.{ChipData}
use Rattle.rl_model.specs.declared.rows.Item.TheVariants.{Mem}
use Rattle.rl_map.specs.Layout.{LayoutData, place_of}
use Rattle.rl_map.specs.Tables.{setup_of}
use Rattle.rl_split.specs.Access.{op_of, sent_of, ops_of, joined}
use Rattle.rl_split.specs.Law.{no_flaws, IsReady, HasLocation}
use Rattle.rl_split.specs.Runs.{answers_of, state_after_all as ops_after}
use Rattle.rl_mirror.proofs.WordLemmas.{bytes_pow}
use Rattle.rl_access.specs.declared.event.End.TheVariants as end
use Rattle.rl_access.specs.declared.event.Event.{Event}
use Rattle.rl_access.specs.declared.event.Op.{Op}
use Rattle.rl_access.specs.declared.event.Op.TheVariants as op
use Rattle.rl_access.specs.declared.trace.TraceItem.{TraceItem}
use Rattle.rl_access.specs.Call.{Scene, IsDone, IsRefused, Performs}
use Rattle.rl_access.specs.HandsOver.{Told}
use Rattle.rl_access.specs.Items.{failed_at, items_of, words_answered, state_after_all, port_for, adapter_for}
use Rattle.rl_access.specs.Model.{ModelData, IsModel}
use Rattle.rl_access.specs.Operation.{location_size, register_of, HasNumbers}
use Rattle.rl_access.specs.Rules.{Grant, grant, named, map_of_place, memory_size, location_bytes, location_value, sends}
use Rattle.rl_access.specs.Rules.{Outcome, or_error, outcome, event_at}
use Rattle.rl_access.proofs.Setups.{setup-state_after_all}
use Rattle.rl_seq.specs.declared.sequence.Sequence.TheVariants.{MemWalk}
use Rattle.rl_seq.specs.Choice.{is_of, may_read, may_write, turned_round}
use Rattle.rl_seq.specs.Plan.{Plan, stop, step, look, followed_by, only_if, each_below, Runs}
use Rattle.rl_seq.specs.Sequences.{map_at, fill, check_filled, write_number, settle_before, check_last, walk_location, is_chosen, is_visited}
use Rattle.rl_seq.specs.Sequences.{at_place, visit, visit_all, walk}
use Rattle.rl_seq.proofs.Granting.{found}
use Rattle.rl_plain.specs.Agree.{IsMemoryAccess}
use Rattle.rl_plain.proofs.Accesses.{all_written}
use Rattle.rl_plain.proofs.Answered.{answered, none_failed, done_of}
use Rattle.rl_plain.proofs.Locations.{location_within, apart}
use Rattle.rl_plain.proofs.MemoryAccesses.{IsGranted, granted_at, write_granted, check_granted, stored_at, loaded_at}
use Rattle.rl_plain.proofs.Outcomes.{good_is}
use Rattle.rl_detect_laws.specs.Devices.{IsSetUp}
use Rattle.rl_detect_laws.specs.Deaf.{deaf_items, IsMarkedCheck, DeafMemoryIsFound}
use Rattle.rl_detect_laws.specs.Visited.{HasEvent, IsVisited}
use Rattle.rl_detect_laws.proofs.Failing.{end_is}
use Rattle.rl_detect_laws.proofs.Holding.{HoldsOne, in_first, in_second, in_chosen, in_each}
use Rattle.rl_detect_laws.proofs.Reaching.{IsPlaceOf, is_place, mem_check_granted}
use Rattle.rl_detect_laws.proofs.Twins.{hearing, twin, AreAlike, none_fails, all_alike, heard, reads_heard}
use Rattle.rl_detect_laws.proofs.Untouched.{IsGuarded, rows_known, all_kept}

-- ---- what stands

-- the device has this setup and these lengths, its beats are 0, and the location holds this
record Holding (m : ModelData) (t : Setup) (mem j x : ℕ) (s : Scene) : Type 0 where
  model : s.model ≡ m
  device : State
  told : s.device ≡ Some device
  set_up : IsSetUp m.chip t device
  open set_up use *
  locations : length device.locations ≡ sum_by (λ m. m.size) m.chip.mems
  here : slice_index device.locations (location t mem j) ≡ x

-- a setup with deaf items
pub record IsDeafSetup (c : ChipData) (l : LayoutData) (t : Setup) : Type 0 where
  pub hears : hearing t ≡ setup_of c l no_flaws
  pub guarded : IsGuarded c t

-- one in which this location is deaf
record IsDeafAt (c : ChipData) (l : LayoutData) (t : Setup) (mem j : ℕ) : Type 0 where
  setup : IsDeafSetup c l t
  open setup use *
  inside : mem < length c.mems
  low : j < memory_size c mem
  deaf : is_deaf t (Loc mem j) ≡ true

-- a twin that hears
pub ready_twin : (c : ChipData) (l : LayoutData) (t : Setup) (d : State) (xs : List ℕ) → hearing t ≡ setup_of c l no_flaws → IsSetUp c t d
    → IsReady c l (twin d d.bits d.marks xs)
ready_twin c l t d xs hears is = record { setup = ap hearing is.setup ∙ hears; beats = is.beats; bits = is.bits; marks = is.marks }

-- one with 0 in each location
abbrev blank : State → State
blank d = twin d d.bits d.marks (replicate (length d.locations) 0)

some_bytes : (n : ℕ) → 0 < 256 ^ n
some_bytes n = subst (λ k. 0 < k) (bytes_pow n) (pow_pos (8 * n))

has_blank : (c : ChipData) (l : LayoutData) (t : Setup) (d : State) (mem index : ℕ) → hearing t ≡ setup_of c l no_flaws → d.setup ≡ t
    → length d.locations ≡ sum_by (λ m. m.size) c.mems → mem < length c.mems → index < memory_size c mem → HasLocation (blank d) mem index (location_size c mem)
has_blank c l t d mem index hears is long inside low =
    let at : location (blank d).setup mem index ≡ location (setup_of c l no_flaws) mem index = ap (λ (u : Setup). location u mem index) (ap hearing is ∙ hears) in
    let room : location (setup_of c l no_flaws) mem index < length d.locations = subst (λ n. location (setup_of c l no_flaws) mem index < n) (sym long) (location_within c l mem index inside low) in
    let here : location (blank d).setup mem index < length d.locations = subst (λ n. n < length d.locations) (sym at) room in
    let held : slice_index (blank d).locations (location (blank d).setup mem index) ≡ 0 = get_or-replicate (length d.locations) (location (blank d).setup mem index) 0 0 here in
    record {
      inside = subst (λ n. location (blank d).setup mem index < n) (sym (length-replicate (length d.locations) 0)) here;
      fits = subst (λ n. n < 256 ^ location_size c mem) (sym held) (some_bytes (location_size c mem));
    }

-- ---- an access of the walk

-- where the twin's items don't fail and leave its beats at 0, those of the device do so too
after_ops : (s new : Scene) (t : Setup) (mem j x place : ℕ) (o : Op) (e : Event) (ops : List BusOp) → IsDeafAt s.model.chip s.model.layout t mem j
    → (h : Holding s.model t mem j x s) → IsDone s new o place e → sends s.model o place ≡ ops → new.model ≡ s.model
    → new.device ≡ Some (state_after_all h.device e.trace) → All (λ a. a.failed ≡ false) (answers_of (blank h.device) (port_for s.model.layout place) ops)
    → ((port address : ℕ) → (ops_after (blank h.device) (port_for s.model.layout place) ops).beats port address ≡ 0)
    → Holding s.model t mem j x new
after_ops s new t mem j x place o e ops deaf h done sent model goes fine first =
    let m = s.model in
    let d = h.device in
    let port = port_for m.layout place in
    let adapter = standing_at s.adapters (adapter_for m.layout place) in
    let alike : AreAlike d (blank d) = record { deaf = []; stuck = d.setup.flaws.stuck; setup = refl; beats = refl; items = refl } in
    let ans = answered adapter d port ops (none_fails d (blank d) port ops alike fine) in
    let trace : e.trace ≡ items_of adapter d port ops = done.answers d h.told ∙ ap (items_of adapter d port) sent in
    let after : state_after_all d e.trace ≡ ops_after d port ops = ap (state_after_all d) trace ∙ ans.state in
    let kept = all_kept m.chip t d e.trace deaf.guarded h.setup in
    record {
      model = model;
      device = state_after_all d e.trace;
      told = goes;
      set_up = record {
        setup = setup-state_after_all d e.trace ∙ h.setup;
        beats = λ p a. ap (λ (y : State). y.beats p a) after ∙ sym (ap (λ (b : ℕ → ℕ → ℕ). b p a) (all_alike d (blank d) port ops alike).beats) ∙ first p a;
        bits = kept.bits ∙ h.bits;
        marks = kept.marks ∙ h.marks;
      };
      locations = kept.locations ∙ h.locations;
      here = kept.deaf mem j deaf.inside deaf.low deaf.deaf ∙ h.here;
    }

either_model : (m : ModelData) (failed : Option ℕ) (good : Outcome) → good.model ≡ m → (or_error failed m good).model ≡ m
either_model m None good is = is
either_model m (Some k) good is = refl

pub model_stays : (m : ModelData) (o : Op) (place sampled : ℕ) (items : List TraceItem) → IsMemoryAccess o → (outcome m o place sampled items).model ≡ m
model_stays m (op.MemWrite n map index value) place sampled items is = either_model m (failed_at items) _ refl
model_stays m (op.MemRead n map index) place sampled items is = either_model m (failed_at items) _ refl
model_stays m (op.MemCheck n map index value) place sampled items is = either_model m (failed_at items) _ refl
model_stays m _ place sampled items is = absurd is

-- a read of a location, which sends these operations
load_done : (s new : Scene) (t : Setup) (mem j x place n index : ℕ) (o : Op) (e : Event) → IsModel s.model → IsDeafAt s.model.chip s.model.layout t mem j
    → n < length s.model.chip.mems → (h : Holding s.model t mem j x s) → IsGranted s.model n index false place
    → sends s.model o place ≡ ops_of s.model.layout place index (location_bytes s.model n) 0 false → new.model ≡ s.model
    → new.device ≡ Some (state_after_all h.device e.trace) → IsDone s new o place e → Holding s.model t mem j x new
load_done s new t mem j x place n index o e ok deaf inside h by sent model goes done =
    let m = s.model in
    let d = h.device in
    let has = has_blank m.chip m.layout t d n index deaf.hears h.setup h.locations inside by.index_in in
    let load = loaded_at m n index place (blank d) ok (ready_twin m.chip m.layout t d _ deaf.hears h.set_up) has by in
    after_ops s new t mem j x place o e (ops_of m.layout place index (location_bytes m n) 0 false) deaf h done sent model goes load.answers load.ready.beats

memory_done : (s new : Scene) (t : Setup) (mem j x place : ℕ) (o : Op) (e : Event) → IsModel s.model → IsDeafAt s.model.chip s.model.layout t mem j
    → IsMemoryAccess o → HasNumbers s.model.chip (length s.model.layout.maps) o → Holding s.model t mem j x s → grant s.model o ≡ Ok place → IsDone s new o place e
    → Holding s.model t mem j x new
memory_done s new t mem j x place (op.MemWrite n map index value) e ok deaf is numbers h granted done =
    let m = s.model in
    let d = h.device in
    let by = write_granted m n index value map place granted in
    let has = has_blank m.chip m.layout t d n index deaf.hears h.setup h.locations numbers.0 by.granted.index_in in
    let store = stored_at m n index value place (blank d) ok (ready_twin m.chip m.layout t d _ deaf.hears h.set_up) numbers.0 has by in
    let ops = ops_of m.layout place index (location_bytes m n) value true in
    after_ops s new t mem j x place (op.MemWrite n map index value) e ops deaf h done refl (done.model ∙ model_stays m (op.MemWrite n map index value) place done.sampled e.trace tt)
    (done.goes ∙ ap (option_map (λ (y : State). state_after_all y e.trace)) h.told) (all_written (answers_of (blank d) (port_for m.layout place) ops) ops store.answers) store.ready.beats
memory_done s new t mem j x place (op.MemCheck n map index value) e ok deaf is numbers h granted done =
    load_done s new t mem j x place n index (op.MemCheck n map index value) e ok deaf numbers.0 h (check_granted s.model n index value map place granted) refl
    (done.model ∙ model_stays s.model (op.MemCheck n map index value) place done.sampled e.trace tt)
    (done.goes ∙ ap (option_map (λ (y : State). state_after_all y e.trace)) h.told) done
memory_done s new t mem j x place (op.MemRead n map index) e ok deaf is numbers h granted done =
    load_done s new t mem j x place n index (op.MemRead n map index) e ok deaf numbers.0 h (granted_at s.model n index map false place granted) refl
    (done.model ∙ model_stays s.model (op.MemRead n map index) place done.sampled e.trace tt)
    (done.goes ∙ ap (option_map (λ (y : State). state_after_all y e.trace)) h.told) done
memory_done s new t mem j x place _ e ok deaf is numbers h granted done = absurd is

memory_by : (s new : Scene) (t : Setup) (mem j x : ℕ) (o : Op) (e : Event) (g : Grant) → grant s.model o ≡ g → IsModel s.model → IsDeafAt s.model.chip s.model.layout t mem j
    → IsMemoryAccess o → HasNumbers s.model.chip (length s.model.layout.maps) o → Holding s.model t mem j x s
    → MatchResult g (λ place. IsDone s new o place e) (λ why. IsRefused s new o why e) → Holding s.model t mem j x new
memory_by s new t mem j x o e (Ok place) granted ok deaf is numbers h done = memory_done s new t mem j x place o e ok deaf is numbers h granted done
memory_by s new t mem j x o e (Err why) granted ok deaf is numbers h refused = subst (Holding s.model t mem j x) (sym refused.unchanged) h

memory_step : (m : ModelData) (s new : Scene) (t : Setup) (mem j x : ℕ) (o : Op) (e : Event) → IsModel m → IsDeafAt m.chip m.layout t mem j
    → IsMemoryAccess o → HasNumbers m.chip (length m.layout.maps) o → Holding m t mem j x s → Performs s new o e → Holding m t mem j x new
memory_step m s new t mem j x o e ok deaf is numbers h performs =
    subst (λ m. IsModel m → IsDeafAt m.chip m.layout t mem j → HasNumbers m.chip (length m.layout.maps) o → Holding m t mem j x s → Holding m t mem j x new) h.model
    (λ ok deaf numbers h. memory_by s new t mem j x o e (grant s.model o) refl ok deaf is numbers h performs) ok deaf numbers h

-- ---- the check of a location

abbrev pub walk_check : ModelData → (mem place j : ℕ) → Op
walk_check m mem place j = op.MemCheck mem (Some (map_at m.layout place)) j (turned_round m.chip (Mem mem) j)

all_reads : (l : LayoutData) (place index chosen : ℕ) → All (λ (o : BusOp). o.write ≡ false) (ops_of l place index chosen 0 false)
unfolding ops_of
all_reads l place index chosen = All-map (λ (o : BusOp). o.write ≡ false) (op_of l place chosen 0 false) (sent_of l place index chosen) (λ k d low. refl)

pub differ_is : (r : Option ℕ) (o : Op) (items : List TraceItem) (out : Outcome) → (event_at r o items out).differ ≡ out.differ
differ_is None o items out = refl
differ_is (Some reg) o items out = refl

other_differs : (b : Bool) → b ≡ false → ◌≡◌ {A = ℕ} (if b then 0 else 1) 1
other_differs true so = absurd (cc)
other_differs false so = refl

-- the event's operation is the check, with the map of the place that was found
op_is : (r : Option ℕ) (o : Op) (items : List TraceItem) (out : Outcome) → (event_at r o items out).op ≡ o
op_is None o items out = refl
op_is (Some reg) o items out = refl

-- the walk's check of a location that held this
pub record IsChecked (m : ModelData) (mem place j x : ℕ) (e : Event) : Type 0 where
  pub check : e.op ≡ walk_check m mem place j
  pub reads : e.end ≡ end.Value x
  pub differ : e.differ ≡ (if x == turned_round m.chip (Mem mem) j then 0 else 1)

pub check_done : (s new : Scene) (d : State) (t : Setup) (mem j x place : ℕ) (e : Event) → IsModel s.model → hearing t ≡ setup_of s.model.chip s.model.layout no_flaws
    → mem < length s.model.chip.mems → x < 256 ^ location_size s.model.chip mem → s.device ≡ Some d → IsSetUp s.model.chip t d
    → length d.locations ≡ sum_by (λ m. m.size) s.model.chip.mems → slice_index d.locations (location t mem j) ≡ x
    → place_of s.model.layout (Mem mem) (Some (map_at s.model.layout place)) ≡ Some place
    → grant s.model (walk_check s.model mem place j) ≡ Ok place → IsDone s new (walk_check s.model mem place j) place e → IsChecked s.model mem place j x e
check_done s new d t mem j x place e ok hears inside fits told set_up long here there granted done =
    let m = s.model in
    let c = m.chip in
    let l = m.layout in
    let value = turned_round c (Mem mem) j in
    let o = walk_check m mem place j in
    let port = port_for l place in
    let adapter = standing_at s.adapters (adapter_for l place) in
    let by = check_granted m mem j value (Some (map_at l place)) place granted in
    let chosen = location_bytes m mem in
    let ops = ops_of l place j chosen 0 false in
    let setup : (heard d).setup ≡ setup_of c l no_flaws = ap hearing set_up.setup ∙ hears in
    let at : location (heard d).setup mem j ≡ location t mem j = ap (λ (u : Setup). location u mem j) set_up.setup in
    let held : slice_index (heard d).locations (location (heard d).setup mem j) ≡ x = ap (slice_index d.locations) at ∙ here in
    let room : location (heard d).setup mem j < length d.locations =
    subst (λ (u : Setup). location u mem j < length d.locations) (sym setup)
    (subst (λ n. location (setup_of c l no_flaws) mem j < n) (sym long) (location_within c l mem j inside by.index_in)) in
    let has : HasLocation (heard d) mem j (location_size c mem) = record { inside = room; fits = subst (λ n. n < 256 ^ location_size c mem) (sym held) fits } in
    let load = loaded_at m mem j place (heard d) ok (ready_twin c l t d d.locations hears set_up) has by in
    let reads : answers_of (heard d) port ops ≡ answers_of d port ops = reads_heard d port ops (all_reads l place j chosen) in
    let ans = answered adapter d port ops (subst (All (λ (a : Answer). a.failed ≡ false)) reads load.answers) in
    let trace : e.trace ≡ items_of adapter d port ops = done.answers d told in
    let none : failed_at e.trace ≡ None = ap failed_at trace ∙ none_failed adapter d port ops ans in
    let words : words_answered e.trace ≡ map (λ (a : Answer). a.word) (answers_of (heard d) port ops) =
    ap words_answered trace ∙ ans.words ∙ ap (map (λ (a : Answer). a.word)) (sym reads) in
    let read : location_value m mem place j e.trace ≡ x = ap (joined l place j chosen) words ∙ load.value_is ∙ held in
    let good : Outcome = record {
      end = end.Value (location_value m mem place j e.trace);
      model = m;
      differ = if location_value m mem place j e.trace == value then 0 else 1;
    } in
    let out = outcome m o place done.sampled e.trace in
    let fine : out ≡ good = good_is (failed_at e.trace) m good none in
    record {
      check = ap (λ (y : Event). y.op) done.event_is
          ∙ op_is (register_of c (named m o)) (named m o) e.trace out
          ∙ ap (λ p. op.MemCheck mem (map_of_place l p (Some (map_at l place))) j value) there;
      reads = ap (λ (y : Event). y.end) done.event_is
          ∙ end_is (register_of c (named m o)) (named m o) e.trace out
          ∙ ap (λ (o : Outcome). o.end) fine
          ∙ ap end.Value read;
      differ = ap (λ (y : Event). y.differ) done.event_is
          ∙ differ_is (register_of c (named m o)) (named m o) e.trace out
          ∙ ap (λ (o : Outcome). o.differ) fine
          ∙ ap (λ n. if n == value then 0 else 1) read;
    }

abbrev Marked : ModelData → (mem place j x : ℕ) → Event → Type 0
Marked m mem place j x e = IsMarkedCheck m.chip mem (map_at m.layout place) j x e

pub marks : (m : ModelData) (mem place j x : ℕ) (e : Event) → IsChecked m mem place j x e → x ≢ turned_round m.chip (Mem mem) j → Marked m mem place j x e
marks m mem place j x e h other = record {
  check = h.check;
  reads = h.reads;
  marked = h.differ ∙ other_differs (x == turned_round m.chip (Mem mem) j) (ne_eqb x (turned_round m.chip (Mem mem) j) other);
}

-- ---- the plan: accesses to memories, and among them this check

abbrev AreAll : (Op → Type 0) → Plan → Type 0
AreAll IsSo stop = Unit {0}
AreAll IsSo (step o p) = IsSo o × AreAll IsSo p
AreAll IsSo (look f) = (m : ModelData) → AreAll IsSo (f m)

all_followed : (IsSo : Op → Type 0) (p q : Plan) → AreAll IsSo p → AreAll IsSo q → AreAll IsSo (followed_by p q)
all_followed IsSo stop q h k = k
all_followed IsSo (step o p) q h k = (h.0, all_followed IsSo p q h.1 k)
all_followed IsSo (look f) q h k = λ m. all_followed IsSo (f m) q (h m) k

all_if : (IsSo : Op → Type 0) (b : Bool) (p : Plan) → (b ≡ true → AreAll IsSo p) → AreAll IsSo (only_if b p)
all_if IsSo true p h = h refl
all_if IsSo false p h = tt

all_each : (IsSo : Op → Type 0) (n : ℕ) (f : ℕ → Plan) → ((k : ℕ) → k < n → AreAll IsSo (f k)) → AreAll IsSo (each_below n f)
all_each IsSo zero f h = tt
all_each IsSo (suc n) f h = all_followed IsSo (each_below n f) (f n) (all_each IsSo n f (λ k low. h k (omega (arith, low)))) (h n (omega arith))

-- the walk's check of this location at this place
pub record IsWalkCheck (m : ModelData) (mem place j : ℕ) (o : Op) : Type 0 where
  pub is : o ≡ walk_check m mem place j
  pub there : place_of m.layout (Mem mem) (Some (map_at m.layout place)) ≡ Some place
  pub granted : (n : ModelData) → n.chip ≡ m.chip → n.layout ≡ m.layout → grant n (walk_check m mem place j) ≡ Ok place

-- or some access to a memory
abbrev IsAccess : ModelData → Op → Type 0
IsAccess m o = IsMemoryAccess o × HasNumbers m.chip (length m.layout.maps) o

marked : (m : ModelData) (s new : Scene) (t : Setup) (mem j x place : ℕ) (o : Op) (e : Event) → IsModel m → IsDeafAt m.chip m.layout t mem j
    → x < 256 ^ location_size m.chip mem → x ≢ turned_round m.chip (Mem mem) j → IsWalkCheck m mem place j o → Holding m t mem j x s → Performs s new o e
    → Marked m mem place j x e
marked m s new t mem j x place o e ok deaf fits other one h performs =
    subst (λ m. IsModel m → IsDeafAt m.chip m.layout t mem j → x < 256 ^ location_size m.chip mem
    → x ≢ turned_round m.chip (Mem mem) j → IsWalkCheck m mem place j o → Holding m t mem j x s → Marked m mem place j x e) h.model
    (λ ok deaf fits other one h.
    let granted = one.granted s.model refl refl in
    marks s.model mem place j x e
    (check_done s new h.device t mem j x place e ok deaf.hears deaf.inside fits h.told h.set_up h.locations h.here one.there granted
    (done_of s new (walk_check s.model mem place j) place e granted (subst (λ o. Performs s new o e) one.is performs))) other) ok deaf fits other one h

found_among : (m : ModelData) (t : Setup) (mem j x place : ℕ) → IsModel m → IsDeafAt m.chip m.layout t mem j → x < 256 ^ location_size m.chip mem
    → x ≢ turned_round m.chip (Mem mem) j → (p : Plan) (s new : Scene) (told : List Told) → AreAll (IsAccess m) p → HoldsOne (IsWalkCheck m mem place j) p
    → Holding m t mem j x s → Runs p s told new → HasEvent (Marked m mem place j x) told
found_among m t mem j x place ok deaf fits other stop s new told all one h run = absurd one
found_among m t mem j x place ok deaf fits other (step o p) s new [] all one h run = absurd run
found_among m t mem j x place ok deaf fits other (step o p) s new (u ∷ told) all (inl first) h (mid, done, rest) =
    inl (marked m s mid t mem j x place o u.event ok deaf fits other first h done.performs)
found_among m t mem j x place ok deaf fits other (step o p) s new (u ∷ told) all (inr later) h (mid, done, rest) =
    inr (found_among m t mem j x place ok deaf fits other p mid new told all.1 later
    (memory_step m s mid t mem j x o u.event ok deaf all.0.0 all.0.1 h done.performs) rest)
found_among m t mem j x place ok deaf fits other (look f) s new told all one h run =
    found_among m t mem j x place ok deaf fits other (f s.model) s new told (all s.model) (one s.model) h run

settled_all : (m : ModelData) (mem map k : ℕ) → mem < length m.chip.mems → map < length m.layout.maps → AreAll (IsAccess m) (settle_before m.chip mem map k)
settled_all m mem map zero inside in_map = tt
settled_all m mem map (suc k) inside in_map = ((tt, (inside, in_map)), ((tt, (inside, in_map)), tt))

location_all : (m : ModelData) (mem map k : ℕ) → mem < length m.chip.mems → map < length m.layout.maps → AreAll (IsAccess m) (walk_location m.chip mem map k)
location_all m mem map k inside in_map =
    all_followed (IsAccess m) (fill m.chip mem map k) (followed_by (settle_before m.chip mem map k) (check_last m.chip mem map k)) ((tt, (inside, in_map)), tt)
    (all_followed (IsAccess m) (settle_before m.chip mem map k) (check_last m.chip mem map k) (settled_all m mem map k inside in_map)
    (all_if (IsAccess m) (k + 1 == memory_size m.chip mem) (check_filled m.chip mem map k) (λ so. ((tt, (inside, in_map)), tt))))

walk_all : (m : ModelData) (block : Option ℕ) → IsModel m → AreAll (IsAccess m) (walk MemWalk m.chip m.layout block)
walk_all m block ok =
    let c = m.chip in
    let l = m.layout in
    all_each (IsAccess m) (length c.mems) (visit_all MemWalk c l block)
    (λ mem inside. all_if (IsAccess m) (is_chosen MemWalk c l block mem) (each_below (length l.places) (visit MemWalk c l mem))
    (λ chosen. all_each (IsAccess m) (length l.places) (visit MemWalk c l mem)
    (λ place there. all_if (IsAccess m) (is_visited MemWalk l mem place) (at_place MemWalk c l mem place)
    (λ visited. all_each (IsAccess m) (memory_size c mem) (walk_location c mem (map_at l place))
    (λ k low. location_all m mem (map_at l place) k inside (ok.layout.each_place place there).map)))))

-- the check of a location is that of the last, or that after the next was filled
check_in : (m : ModelData) (block : Option ℕ) (mem place j : ℕ) → IsModel m → IsVisited MemWalk m.chip m.layout block mem place → j < memory_size m.chip mem
    → HoldsOne (IsWalkCheck m mem place j) (walk MemWalk m.chip m.layout block)
check_in m block mem place j ok v low =
    let one = IsWalkCheck m mem place j in
    in_each one (length m.chip.mems) mem (visit_all MemWalk m.chip m.layout block) v.number_in
    (in_chosen one (is_chosen MemWalk m.chip m.layout block mem) (each_below (length m.layout.places) (visit MemWalk m.chip m.layout mem)) v.chosen
    (in_each one (length m.layout.places) place (visit MemWalk m.chip m.layout mem) v.place_in
    (in_chosen one (is_visited MemWalk m.layout mem place) (at_place MemWalk m.chip m.layout mem place) v.visited (by (cases_eq (j + 1) (memory_size m.chip mem))))))
  where
    at : IsPlaceOf m.chip m.layout place (Mem mem)
    at = is_place m.chip m.layout place (Mem mem) ok.layout ok.built v.place_in
        (and_parts (is_of m.layout place (Mem mem)) (may_read m.layout place && may_write m.layout place) v.visited).0

    reads : may_read m.layout place ≡ true
    reads =
        (and_parts (may_read m.layout place) (may_write m.layout place)
        (and_parts (is_of m.layout place (Mem mem)) (may_read m.layout place && may_write m.layout place) v.visited).1).0

    check : IsWalkCheck m mem place j (walk_check m mem place j)
    check = record {
      is = refl;
      there = found m.layout (Mem mem) place ok.layout v.place_in at.mine;
      granted = mem_check_granted m.chip m.layout mem place j j at reads low;
    }

    by : (j + 1 ≡ memory_size m.chip mem) ⊎ (j + 1 ≡ memory_size m.chip mem → ⊥) → HoldsOne (IsWalkCheck m mem place j) (at_place MemWalk m.chip m.layout mem place)
    by (inl last) =
        let c = m.chip in
        let map = map_at m.layout place in
        let one = IsWalkCheck m mem place j in
        in_each one (memory_size c mem) j (walk_location c mem map) low
        (in_second one (fill c mem map j) (followed_by (settle_before c mem map j) (check_last c mem map j))
        (in_second one (settle_before c mem map j) (check_last c mem map j)
        (in_chosen one (j + 1 == memory_size c mem) (check_filled c mem map j) (eq-eqb (j + 1) (memory_size c mem) last) (inl check))))
    by (inr more) =
        let c = m.chip in
        let map = map_at m.layout place in
        let one = IsWalkCheck m mem place j in
        in_each one (memory_size c mem) (suc j) (walk_location c mem map) (omega (arith, low, more))
        (in_second one (fill c mem map (suc j)) (followed_by (settle_before c mem map (suc j)) (check_last c mem map (suc j)))
        (in_first one (settle_before c mem map (suc j)) (check_last c mem map (suc j))
        (in_first one (check_filled c mem map j) (write_number c mem map j) (inl check))))

-- ---- the law

pub deaf_setup : (m : ModelData) (deaf : List ItemRow) → IsModel m → IsDeafSetup m.chip m.layout (setup_of m.chip m.layout (deaf_items deaf))
unfolding setup_of
deaf_setup m deaf ok = record {
  hears = refl;
  guarded = record {
    known = rows_known m.chip m.layout ok.layout ok.built;
    apart = λ n k i j inside low within below same. (apart m.chip m.layout i j n k within below inside low same).0;
  };
}

pub deaf_memory_is_found : DeafMemoryIsFound
deaf_memory_is_found s new d block told mem index place ok is has deaf v run =
    let m = s.model in
    let x = slice_index d.locations (location d.setup mem index) in
    let t = setup_of m.chip m.layout (deaf_items has.deaf) in
    let sound : IsDeafAt m.chip m.layout t mem index = record {
      setup = deaf_setup m has.deaf ok;
      inside = v.number_in;
      low = deaf.index_in;
      deaf = subst (λ (u : Setup). is_deaf u (Loc mem index) ≡ true) has.setup deaf.deaf;
    } in
    found_among m t mem index x place ok sound deaf.fits deaf.other (walk MemWalk m.chip m.layout block) s new told (walk_all m block ok)
    (check_in m block mem place index ok v deaf.index_in)
    (record {
      model = refl;
      device = d;
      told = is;
      set_up = has.set_up;
      locations = has.locations;
      here = ap (λ (u : Setup). slice_index d.locations (location u mem index)) (sym has.setup);
    }) run
