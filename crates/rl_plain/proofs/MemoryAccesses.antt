-- An access to a memory over the bus stores or brings what its location holds, and leaves the registers.
use Rattle.std.proofs.Common.{◌≡◌, ℕ, ◌^◌, ◌<◌, true, false, Bool, List, length, Option, None, Some, option_map, Ok, refl, sym, ap, ◌∙◌, subst}
use Rattle.std.specs.Prelude.{◌==◌, slice_index, slice_set, slice_get, nat_lt, if◌then◌else◌}
use Rattle.std.specs.Option.{option_map_or}
use Rattle.std.proofs.lemmas.Bool.{ltb-true}
use Rattle.rl_policy.specs.Bits.{bit}
use Rattle.rl_bus.specs.Setup.{Setup, mem_of, location}
use Rattle.rl_bus.specs.State.{State}
use Rattle.rl_bus.specs.declared.op.BusOp.{BusOp}
use Rattle.rl_model.specs.declared.rows.Item.TheVariants as item
use Rattle.rl_model.specs.Rows.{ChipData}
use Rattle.rl_map.specs.Layout.{LayoutData, place_at}
use Rattle.rl_split.specs.Access.{all_bytes, ops_of, joined}
use Rattle.rl_split.specs.Law.{IsReady, IsLocationOf, HasLocation, IsStore, IsLoad}
use Rattle.rl_split.specs.Runs.{answers_of, counted_on, state_after_all}
use Rattle.rl_split.proofs.Locations.{memory_write_is_store, memory_read_is_load}
use Rattle.rl_mirror.specs.Mirror.{MirrorData}
use Rattle.rl_access.specs.declared.event.End.{End}
use Rattle.rl_access.specs.declared.event.End.TheVariants as end
use Rattle.rl_access.specs.declared.event.Event.{Event}
use Rattle.rl_access.specs.declared.event.Op.{Op}
use Rattle.rl_access.specs.declared.event.Op.TheVariants as op
use Rattle.rl_access.specs.declared.event.Refused.TheVariants.{NotWritable, OutOfRange, TooWide}
use Rattle.rl_access.specs.declared.trace.TraceItem.{TraceItem}
use Rattle.rl_access.specs.Call.{Scene, IsDone}
use Rattle.rl_access.specs.Gathering.{IsNothingGathered}
use Rattle.rl_access.specs.Items.{failed_at, port_for}
use Rattle.rl_access.specs.Model.{ModelData, IsModel}
use Rattle.rl_access.specs.Operation.{location_size, HasNumbers}
use Rattle.rl_access.specs.Rules.{Grant, Outcome, grant, way, only_where, at_location, writable, memory_size, is_writable, item_size, location_bytes, location_value, or_error, quiet}
use Rattle.rl_access.proofs.Places.{place_size}
use Rattle.rl_plain.specs.Agree.{IsAsBelieved, Agree, HasLocations, IsMemoryAccess, MemoryAccessKeepsAgreement}
use Rattle.rl_plain.proofs.Accesses.{all_written}
use Rattle.rl_plain.proofs.Agreement.{refused_agree}
use Rattle.rl_plain.proofs.Answered.{IsSentAs, HasRunAs, has_run_as}
use Rattle.rl_plain.proofs.Granted.{only_ok, IsWay, way_found}
use Rattle.rl_plain.proofs.Locations.{memory_row}
use Rattle.rl_plain.proofs.Outcomes.{good_is}

-- ---- what a grant says

-- the place of a location that may be reached
pub record IsGranted (m : ModelData) (mem index : ℕ) (write : Bool) (place : ℕ) : Type 0 where
  pub there : IsWay m.layout (item.Mem mem) write place
  pub index_in : index < memory_size m.chip mem

pub granted_at : (m : ModelData) (mem index : ℕ) (map : Option ℕ) (write : Bool) (place : ℕ) → at_location m mem index (way m (item.Mem mem) map write) ≡ Ok place → IsGranted m mem index write place
granted_at m mem index map write place e =
    let both = only_ok (way m (item.Mem mem) map write) (nat_lt index (memory_size m.chip mem)) OutOfRange place e in
    record { there = way_found m (item.Mem mem) map write place both.0; index_in = ltb-true index (memory_size m.chip mem) both.1 }

-- a value that the location can hold
fits_at : (m : ModelData) (mem value place : ℕ) (g : Grant) → only_where g (nat_lt value (256 ^ item_size m.chip (item.Mem mem))) TooWide ≡ Ok place →
    (g ≡ Ok place) × (value < 256 ^ location_size m.chip mem)
fits_at m mem value place g e =
    let both = only_ok g (nat_lt value (256 ^ item_size m.chip (item.Mem mem))) TooWide place e in
    (both.0, ltb-true value (256 ^ location_size m.chip mem) both.1)

pub record IsWriteGranted (m : ModelData) (mem index value place : ℕ) : Type 0 where
  pub granted : IsGranted m mem index true place
  pub open_to : is_writable m.chip mem ≡ true
  pub small : value < 256 ^ location_size m.chip mem

pub write_granted : (m : ModelData) (mem index value : ℕ) (map : Option ℕ) (place : ℕ) → grant m (op.MemWrite mem map index value) ≡ Ok place → IsWriteGranted m mem index value place
write_granted m mem index value map place e =
    let along = way m (item.Mem mem) map true in
    let first = fits_at m mem value place (at_location m mem index (writable m mem along)) e in
    let second = only_ok (writable m mem along) (nat_lt index (memory_size m.chip mem)) OutOfRange place first.0 in
    let third = only_ok along (is_writable m.chip mem) NotWritable place second.0 in
    record {
      granted = record { there = way_found m (item.Mem mem) map true place third.0; index_in = ltb-true index (memory_size m.chip mem) second.1 };
      open_to = third.1;
      small = first.1;
    }

-- where a granted operation goes, and what it writes there
pub write_place : (m : ModelData) (mem index value : ℕ) (map : Option ℕ) (place : ℕ) → grant m (op.MemWrite mem map index value) ≡ Ok place → (index < memory_size m.chip mem) ×
    (value < 256 ^ location_size m.chip mem)
write_place m mem index value map place e = let by = write_granted m mem index value map place e in (by.granted.index_in, by.small)

pub read_place : (m : ModelData) (mem index : ℕ) (map : Option ℕ) (place : ℕ) → grant m (op.MemRead mem map index) ≡ Ok place → index < memory_size m.chip mem
read_place m mem index map place e = (granted_at m mem index map false place e).index_in

pub check_granted : (m : ModelData) (mem index value : ℕ) (map : Option ℕ) (place : ℕ) → grant m (op.MemCheck mem map index value) ≡ Ok place → IsGranted m mem index false place
check_granted m mem index value map place e = granted_at m mem index map false place (fits_at m mem value place (at_location m mem index (way m (item.Mem mem) map false)) e).0

pub check_place : (m : ModelData) (mem index value : ℕ) (map : Option ℕ) (place : ℕ) → grant m (op.MemCheck mem map index value) ≡ Ok place → index < memory_size m.chip mem
check_place m mem index value map place e = (check_granted m mem index value map place e).index_in

-- ---- the location at the place

size_of_some : {A : Type 0} (f : A → ℕ) (o : Option A) (n : ℕ) → option_map f o ≡ Some n → option_map_or f o 0 ≡ n
size_of_some f None n e = absurd (cc)
size_of_some f (Some a) n e = cc

location_for : (m : ModelData) (mem index : ℕ) (write : Bool) (place : ℕ) → IsModel m → IsGranted m mem index write place → IsLocationOf m.chip m.layout place mem index write
location_for m mem index write place ok granted =
    let at = granted.there in
    let sizes = (ok.built place at.there.inside).1 mem at.there.item_is in
    record {
      layout = ok.layout;
      place_in = at.there.inside;
      index_in = subst (λ n. index < n) (size_of_some (λ m. m.size) (slice_get m.chip.mems mem) (place_at m.layout place).size sizes) granted.index_in;
      item = at.there.item_is;
      right = at.right;
    }

bytes_there : (m : ModelData) (mem index : ℕ) (write : Bool) (place : ℕ) → IsModel m → IsGranted m mem index write place → (place_at m.layout place).bytes ≡ location_size m.chip mem
bytes_there m mem index write place ok granted = place_size m (item.Mem mem) place ok granted.there.there

pub stored_at : (m : ModelData) (mem index value place : ℕ) (d : State) → IsModel m → IsReady m.chip m.layout d → mem < length m.chip.mems →
    HasLocation d mem index (location_size m.chip mem) → IsWriteGranted m mem index value place →
    IsStore m.chip m.layout d place mem index value (ops_of m.layout place index (location_bytes m mem) value true)
stored_at m mem index value place d ok ready inside has by =
    let c = m.chip in
    let l = m.layout in
    let size = bytes_there m mem index true place ok by.granted in
    let open_to : (mem_of d.setup mem).writable ≡ true = ap (λ (t : Setup). (mem_of t mem).writable) ready.setup ∙ (memory_row c l mem inside).writable ∙ by.open_to in
    subst (λ n. IsStore c l d place mem index value (ops_of l place index (all_bytes n) value true)) size
    (memory_write_is_store c l d place mem index value (location_for m mem index true place ok by.granted) ready (subst (HasLocation d mem index) (sym size) has) open_to
    (subst (λ n. value < 256 ^ n) (sym size) by.small))

pub loaded_at : (m : ModelData) (mem index place : ℕ) (d : State) → IsModel m → IsReady m.chip m.layout d → HasLocation d mem index (location_size m.chip mem) →
    IsGranted m mem index false place →
    let chosen = location_bytes m mem in
    IsLoad m.chip m.layout d place mem index (ops_of m.layout place index chosen 0 false) (joined m.layout place index chosen)
loaded_at m mem index place d ok ready has granted =
    let l = m.layout in
    let size = bytes_there m mem index false place ok granted in
    subst (λ n. IsLoad m.chip l d place mem index (ops_of l place index (all_bytes n) 0 false) (joined l place index (all_bytes n))) size
    (memory_read_is_load m.chip l d place mem index (location_for m mem index false place ok granted) ready (subst (HasLocation d mem index) (sym size) has))

-- ---- what is left and told

abbrev pub stored : State → (mem index value count : ℕ) → State
stored d mem index value count = record d { locations = slice_set d.locations (location d.setup mem index) value; items = counted_on count d.items }

abbrev pub loaded : State → (count : ℕ) → State
loaded d count = record d { items = counted_on count d.items }

-- the device goes so, the model stays, and the event ends so
pub record IsMemoryStep (s new : Scene) (event : Event) (after : State) (e : End) (differ : ℕ) : Type 0 where
  pub told : new.device ≡ Some after
  pub ready : IsReady s.model.chip s.model.layout after
  pub model : new.model ≡ s.model
  pub ends : event.end ≡ e
  pub finds : event.differ ≡ differ

-- an operation that has run so, and no item of which failed, makes this of it
memory_step : (s new : Scene) (op : Op) (event : Event) (place : ℕ) (d after : State) (ops : List BusOp) (o : List TraceItem → Outcome) (e : End) (differ : ℕ) →
    HasRunAs s new op event place None d ops o → state_after_all d (port_for s.model.layout place) ops ≡ after →
    o event.trace ≡ (record { end = e; model = s.model; differ = differ }) → IsReady s.model.chip s.model.layout after → IsMemoryStep s new event after e differ
memory_step s new op event place d after ops o e differ run state good ready = record {
  told = run.told ∙ ap Some state;
  ready = ready;
  model = run.model ∙ ap (λ (x : Outcome). x.model) good;
  ends = ap (λ (e : Event). e.end) run.event_is ∙ ap (λ (x : Outcome). x.end) good;
  finds = ap (λ (e : Event). e.differ) run.event_is ∙ ap (λ (x : Outcome). x.differ) good;
}

pub write_step_is : (s new : Scene) (mem index value : ℕ) (map : Option ℕ) (event : Event) (place : ℕ) → IsModel s.model → (a : Agree s) → mem < length s.model.chip.mems →
    HasLocation a.device mem index (location_size s.model.chip mem) →
    grant s.model (op.MemWrite mem map index value) ≡ Ok place → IsDone s new (op.MemWrite mem map index value) place event →
    let ops = ops_of s.model.layout place index (location_bytes s.model mem) value true in
    IsMemoryStep s new event (stored a.device mem index value (length ops)) end.Done 0
write_step_is s new mem index value map event place ok a inside has granted done =
    let m = s.model in
    let d = a.device in
    let ops = ops_of m.layout place index (location_bytes m mem) value true in
    let w = stored_at s.model mem index value place d ok a.believed_is.ready inside has (write_granted m mem index value map place granted) in
    let o : List TraceItem → Outcome = λ items. or_error (failed_at items) m (quiet end.Done m) in
    let run = has_run_as s new (op.MemWrite mem map index value) event place None d ops o done a.told
    (record { sends_are = refl; outcome_is = λ sampled items. refl; register = refl; goes = λ sampled items d. refl }) (all_written (answers_of d (port_for m.layout place) ops) ops w.answers) in
    memory_step s new (op.MemWrite mem map index value) event place d (stored d mem index value (length ops)) ops o end.Done 0 run w.state
    (good_is (failed_at event.trace) m (quiet end.Done m) run.none) (subst (IsReady m.chip m.layout) w.state w.ready)

-- a read ends with what the location holds
abbrev good_load : ModelData → (found : ℕ → ℕ) → ℕ → Outcome
good_load m found value = record { end = end.Value value; model = m; differ = found value }

abbrev load_outcome : ModelData → (mem place index : ℕ) → (found : ℕ → ℕ) → List TraceItem → Outcome
load_outcome m mem place index found items = or_error (failed_at items) m (good_load m found (location_value m mem place index items))

load_step_by : (s new : Scene) (op : Op) (mem index : ℕ) (event : Event) (place : ℕ) (found : ℕ → ℕ) → IsModel s.model → (a : Agree s) → HasLocation a.device mem index (location_size s.model.chip
    mem) → IsGranted s.model mem index false place → IsDone s new op place event →
    let ops = ops_of s.model.layout place index (location_bytes s.model mem) 0 false in
    IsSentAs s.model op place None ops (load_outcome s.model mem place index found) →
    let held = slice_index a.device.locations (location a.device.setup mem index) in
    IsMemoryStep s new event (loaded a.device (length ops)) (end.Value held) (found held)
load_step_by s new op mem index event place found ok a has granted done sent =
    let m = s.model in
    let d = a.device in
    let chosen = location_bytes m mem in
    let ops = ops_of m.layout place index chosen 0 false in
    let held = slice_index d.locations (location d.setup mem index) in
    let w = loaded_at s.model mem index place d ok a.believed_is.ready has granted in
    let o : List TraceItem → Outcome = load_outcome m mem place index found in
    let run = has_run_as s new op event place None d ops o done a.told sent w.answers in
    let value : location_value m mem place index event.trace ≡ held = ap (joined m.layout place index chosen) run.words ∙ w.value_is in
    memory_step s new op event place d (loaded d (length ops)) ops o (end.Value held) (found held) run w.state
    (good_is (failed_at event.trace) m (good_load m found (location_value m mem place index event.trace)) run.none ∙ ap (good_load m found) value)
    (subst (IsReady m.chip m.layout) w.state w.ready)

pub read_step_is : (s new : Scene) (mem index : ℕ) (map : Option ℕ) (event : Event) (place : ℕ) → IsModel s.model → (a : Agree s) → HasLocation a.device mem index (location_size s.model.chip mem) →
    grant s.model (op.MemRead mem map index) ≡ Ok place → IsDone s new (op.MemRead mem map index) place event →
    let ops = ops_of s.model.layout place index (location_bytes s.model mem) 0 false in
    IsMemoryStep s new event (loaded a.device (length ops)) (end.Value (slice_index a.device.locations (location a.device.setup mem index))) 0
read_step_is s new mem index map event place ok a has granted done =
    load_step_by s new (op.MemRead mem map index) mem index event place (λ v. 0) ok a has (granted_at s.model mem index map false place granted) done
    (record { sends_are = refl; outcome_is = λ sampled items. refl; register = refl; goes = λ sampled items d. refl })

pub check_step_is : (s new : Scene) (mem index value : ℕ) (map : Option ℕ) (event : Event) (place : ℕ) → IsModel s.model → (a : Agree s) → HasLocation a.device mem index (location_size s.model.chip
    mem) →
    grant s.model (op.MemCheck mem map index value) ≡ Ok place → IsDone s new (op.MemCheck mem map index value) place event →
    let ops = ops_of s.model.layout place index (location_bytes s.model mem) 0 false in
    let held = slice_index a.device.locations (location a.device.setup mem index) in
    IsMemoryStep s new event (loaded a.device (length ops)) (end.Value held) (if held == value then 0 else 1)
check_step_is s new mem index value map event place ok a has granted done =
    load_step_by s new (op.MemCheck mem map index value) mem index event place (λ v. if v == value then 0 else 1) ok a has
    (check_granted s.model mem index value map place granted) done
    (record { sends_are = refl; outcome_is = λ sampled items. refl; register = refl; goes = λ sampled items d. refl })

-- ---- agreement

-- the registers stay
believed_there : (c : ChipData) (l : LayoutData) (m : MirrorData) (d after : State) → IsAsBelieved c l m d → IsReady c l after → after.bits ≡ d.bits → after.marks ≡ d.marks → IsAsBelieved c l m after
believed_there c l m d after a ready bits marks = record {
  ready = ready;
  steady = a.steady;
  holds = λ reg inside. let h = a.holds reg inside in record {
    bits = ap (λ x. slice_index x reg) bits ∙ h.bits;
    marks = λ b k low at. ap (λ x. bit (slice_index x reg) b) marks ∙ h.marks b k low at;
  };
  alone = λ reg inside b low e. ap (λ x. bit (slice_index x reg) b) marks ∙ a.alone reg inside b low e;
}

pub memory_agrees : (s new : Scene) (event : Event) (after : State) (e : End) (differ : ℕ) → (a : Agree s) → IsMemoryStep s new event after e differ → after.bits ≡ a.device.bits →
    after.marks ≡ a.device.marks → Agree new
memory_agrees s new event after e differ a st bits marks =
    let m = s.model in
    record {
      device = after;
      told = st.told;
      believed_is = subst (λ (x : ModelData). IsAsBelieved x.chip x.layout x.mirror after) (sym st.model) (believed_there m.chip m.layout m.mirror a.device after a.believed_is st.ready bits marks);
      gathered = subst (λ (x : ModelData). IsNothingGathered x.gathered) (sym st.model) a.gathered;
    }

memory_access_done : (s new : Scene) (op : Op) (event : Event) (place : ℕ) → IsMemoryAccess op → HasNumbers s.model.chip (length s.model.layout.maps) op → IsModel s.model → (a : Agree s) →
    HasLocations s.model.chip a.device → grant s.model op ≡ Ok place → IsDone s new op place event → Agree new
memory_access_done s new (op.MemWrite mem map index value) event place is numbers ok a has granted done =
    let low = (write_place s.model mem index value map place granted).0 in
    memory_agrees s new event _ _ _ a (write_step_is s new mem index value map event place ok a numbers.0 (has mem index numbers.0 low) granted done) refl refl
memory_access_done s new (op.MemRead mem map index) event place is numbers ok a has granted done =
    let low = read_place s.model mem index map place granted in
    memory_agrees s new event _ _ _ a (read_step_is s new mem index map event place ok a (has mem index numbers.0 low) granted done) refl refl
memory_access_done s new (op.MemCheck mem map index value) event place is numbers ok a has granted done =
    let low = check_place s.model mem index value map place granted in
    memory_agrees s new event _ _ _ a (check_step_is s new mem index value map event place ok a (has mem index numbers.0 low) granted done) refl refl
memory_access_done s new _ event place is numbers ok a has granted done = absurd is

pub memory_access_keeps_agreement : MemoryAccessKeepsAgreement
memory_access_keeps_agreement s new op event is numbers ok a has performs =
    refused_agree s new op event (grant s.model op) a performs (λ place granted done. memory_access_done s new op event place is numbers ok a has granted done)
