-- An access to locations of a region leaves every location outside the region.
use Rattle.std.proofs.Common.{◌≡◌, ℕ, ◌+◌, ◌<◌, ◌≤◌, Bool, true, false, nat_le, cond, List, [], ◌∷◌, length, Option, None, Some, option_map, Result, Ok, Err, refl, sym, ap, ◌∙◌, subst, arith}
use Rattle.std.specs.Prelude.{All, slice_index, MatchResult, IfSome}
use Rattle.std.specs.Bool.{MatchBool}
use Rattle.rl_bus.specs.declared.table.Cell.TheVariants.{Loc}
use Rattle.rl_bus.specs.Setup.{Setup, location}
use Rattle.rl_bus.specs.Standing.{standing_at}
use Rattle.rl_bus.specs.State.{State, peeked}
use Rattle.std.proofs.lemmas.Bool.Decides.{nat_tests}
use Rattle.rl_model.specs.Rows.{ChipData}
use Rattle.rl_access.specs.declared.event.Tally.{Tally}
use Rattle.rl_split.specs.Access.{ops_of}
use Rattle.rl_access.specs.declared.event.End.TheVariants as end
use Rattle.rl_access.specs.declared.event.Event.{Event}
use Rattle.rl_access.specs.declared.event.Op.{Op}
use Rattle.rl_access.specs.declared.event.Op.TheVariants as op
use Rattle.rl_access.specs.declared.trace.TraceItem.{TraceItem}
use Rattle.rl_access.specs.Call.{Scene, Performs, IsDone, IsRefused}
use Rattle.rl_access.specs.HandsOver.{Told}
use Rattle.rl_access.specs.Items.{AreItemsOf, adapter_for, port_for, failed_at, state_after_all}
use Rattle.rl_access.specs.Model.{ModelData, IsModel, IsSetupOf}
use Rattle.rl_access.specs.Rules.{Grant, Outcome, grant, memory_size, location_bytes, location_value, or_error, quiet}
use Rattle.rl_access.specs.Runs.{RunsThrough, RunsInto, IsBurst, writes_of}
use Rattle.rl_access.specs.Tally.{is_bus_error}
use Rattle.rl_access.proofs.Setups.{setup-state_after_all}
use Rattle.rl_mam.specs.declared.region.Region.{Region}
use Rattle.rl_mam.specs.declared.region.RegionFault.TheVariants.{OutsideRegion}
use Rattle.rl_mam.specs.Regions.{IsIn, region_at, location_at, location_in}
use Rattle.rl_mam.specs.Outside.{IsWithin, LeavesOutside}
use Rattle.rl_mam.proofs.Grants.{IsReached, write_reaches, read_reaches}
use Rattle.rl_access.proofs.MemoryRows.{other_place}
use Rattle.rl_mam.proofs.Stores.{IsAtLocation, items_stored, ops_at}

-- from state d: the device tells a state of the same setup, the model is the same, and so are the locations outside the region
pub record After (s new : Scene) (mem : ℕ) (r : Region) (d : State) : Type 0 where
  pub state : State
  pub device : new.device ≡ Some state
  pub setup : state.setup ≡ d.setup
  pub model : new.model ≡ s.model
  pub kept : (m i : ℕ) → m < length s.model.chip.mems → i < memory_size s.model.chip m → ¬ IsWithin mem r m i → peeked state (Loc m i) ≡ peeked d (Loc m i)

-- what an access to the region meets
pub record Meets (s : Scene) (mem : ℕ) (d : State) : Type 0 where
  pub ok : IsModel s.model
  pub mem_in : mem < length s.model.chip.mems
  pub told : s.device ≡ Some d
  pub setup : IsSetupOf s.model.chip s.model.layout d.setup

peek_same : (s t : State) (m i : ℕ) → t.setup ≡ s.setup → slice_index t.locations (location s.setup m i) ≡ slice_index s.locations (location s.setup m i) → peeked t (Loc m i) ≡ peeked s (Loc m i)
unfolding peeked
peek_same s t m i same kept = ap (λ (x : Setup). slice_index t.locations (location x m i)) same ∙ kept

after_same : (s new : Scene) (mem : ℕ) (r : Region) (d : State) → new ≡ s → s.device ≡ Some d → After s new mem r d
after_same s new mem r d same told = record {
  state = d;
  device = ap (λ (x : Scene). x.device) same ∙ told;
  setup = refl;
  model = ap (λ (x : Scene). x.model) same;
  kept = λ m i inside low other. refl;
}

after_sent : (s new : Scene) (mem index chosen value place : ℕ) (write : Bool) (trace : List TraceItem) (r : Region) (d : State) → Meets s mem d → IsIn r index →
    IsReached s.model mem index write place
    → AreItemsOf (standing_at s.adapters (adapter_for s.model.layout place)) (port_for s.model.layout place) (ops_of s.model.layout place index chosen value write) trace
    → new.device ≡ option_map (λ d. state_after_all d trace) s.device → new.model ≡ s.model → After s new mem r d
after_sent s new mem index chosen value place write trace r d meets inside reached are goes model =
    let c = s.model.chip in
    let l = s.model.layout in
    let port = port_for l place in
    let flaws = meets.setup.flaws in
    let at = subst (λ (t : Setup). All (IsAtLocation t port mem index) (ops_of l place index chosen value write)) (sym meets.setup.setup)
    (ops_at c l flaws place mem index chosen value write meets.ok.layout reached.there reached.item_is reached.right) in
    record {
      state = state_after_all d trace;
      device = goes ∙ ap (option_map (λ (x : State). state_after_all x trace)) meets.told;
      setup = setup-state_after_all d trace;
      model = model;
      kept = λ m i in_chip low other.
          peek_same d (state_after_all d trace) m i (setup-state_after_all d trace)
          (items_stored (standing_at s.adapters (adapter_for l place)) port mem index (ops_of l place index chosen value write) trace d.setup d (location d.setup m i) are at refl
          (other_place c l flaws d.setup mem index m i meets.setup.setup meets.mem_in reached.index_in in_chip low (λ same equal. other (same, subst (IsIn r) (sym equal) inside))));
    }

model_stays : (f : Option ℕ) (m : ModelData) (good : Outcome) → good.model ≡ m → (or_error f m good).model ≡ m
model_stays None m good e = e
model_stays (Some k) m good e = refl

-- ---- one access

pub after_write : (s new : Scene) (mem index value : ℕ) (map : Option ℕ) (event : Event) (r : Region) (d : State) → Meets s mem d → IsIn r index → Performs s new (op.MemWrite mem map index value)
    event → After s new mem r d
after_write s new mem index value map event r d meets inside performs = by (grant s.model (op.MemWrite mem map index value)) refl performs
  where
    by : (g : Grant) → grant s.model (op.MemWrite mem map index value) ≡ g → MatchResult g (λ place. IsDone s new (op.MemWrite mem map index value) place event) (λ why. IsRefused s new
        (op.MemWrite mem map index value) why event) → After s new mem r d
    by (Ok place) granted done = after_sent s new mem index (location_bytes s.model mem) value place true event.trace r d meets inside (write_reaches s.model mem index value map place meets.ok
        granted) done.items done.goes
        (done.model ∙ model_stays (failed_at event.trace) s.model (quiet end.Done s.model) refl)
    by (Err why) granted refused = after_same s new mem r d refused.unchanged meets.told

pub after_read : (s new : Scene) (mem index : ℕ) (map : Option ℕ) (event : Event) (r : Region) (d : State) → Meets s mem d → IsIn r index → Performs s new (op.MemRead mem map index) event →
    After s new mem r d
after_read s new mem index map event r d meets inside performs = by (grant s.model (op.MemRead mem map index)) refl performs
  where
    by : (g : Grant) → grant s.model (op.MemRead mem map index) ≡ g → MatchResult g (λ place. IsDone s new (op.MemRead mem map index) place event) (λ why. IsRefused s new (op.MemRead mem map index)
        why event) → After s new mem r d
    by (Ok place) granted done = after_sent s new mem index (location_bytes s.model mem) 0 place false event.trace r d meets inside (read_reaches s.model mem index map place meets.ok granted)
        done.items done.goes
        (done.model ∙ model_stays (failed_at event.trace) s.model (quiet (end.Value (location_value s.model mem place index event.trace)) s.model) refl)
    by (Err why) granted refused = after_same s new mem r d refused.unchanged meets.told

-- ---- accesses, one after another

meets_next : (s mid : Scene) (mem : ℕ) (r : Region) (d : State) → Meets s mem d → (a : After s mid mem r d) → Meets mid mem a.state
meets_next s mid mem r d meets a = record {
  ok = subst IsModel (sym a.model) meets.ok;
  mem_in = subst (λ (m : ModelData). mem < length m.chip.mems) (sym a.model) meets.mem_in;
  told = a.device;
  setup = subst (λ (m : ModelData). IsSetupOf m.chip m.layout a.state.setup) (sym a.model) (subst (IsSetupOf s.model.chip s.model.layout) (sym a.setup) meets.setup);
}

after_both : (s mid new : Scene) (mem : ℕ) (r : Region) (d : State) → (a : After s mid mem r d) → After mid new mem r a.state → After s new mem r d
after_both s mid new mem r d a b = record {
  state = b.state;
  device = b.device;
  setup = b.setup ∙ a.setup;
  model = b.model ∙ a.model;
  kept = λ m i inside low other.
      b.kept m i (subst (λ (x : ModelData). m < length x.chip.mems) (sym a.model) inside) (subst (λ (x : ModelData). i < memory_size x.chip m) (sym a.model) low) other
      ∙ a.kept m i inside low other;
}

pub after_run : (s new : Scene) (mem first : ℕ) (map : Option ℕ) (values : List ℕ) (told : List Told) (r : Region) (d : State) → Meets s mem d → r.first ≤ first →
    first + length values ≤ r.first + r.len
    → RunsThrough s (writes_of mem map first values) told new → After s new mem r d
after_run s new mem first map [] [] r d meets low high run = after_same s new mem r d run meets.told
after_run s new mem first map [] (t ∷ told) r d meets low high run = absurd run
after_run s new mem first map (v ∷ values) [] r d meets low high run = absurd run
after_run s new mem first map (v ∷ values) (t ∷ told) r d meets low high run =
    let step = after_write s run.0 mem first v map t.event r d meets (low, omega arith) run.1.performs in
    by step (is_bus_error t.event.end) run.2 (λ rest. after_run run.0 new mem (first + 1) map values told r step.state (meets_next s run.0 mem r d meets step) (omega arith) (omega arith) rest)
  where
    by : (step : After s run.0 mem r d) → (b : Bool) → MatchBool b ((told ≡ []) × (new ≡ run.0)) (RunsThrough run.0 (writes_of mem map (first + 1) values) told new)
        → (RunsThrough run.0 (writes_of mem map (first + 1) values) told new → After run.0 new mem r step.state) → After s new mem r d
    by step true ends rest = subst (λ (x : Scene). After s x mem r d) (sym ends.1) step
    by step false more rest = after_both s run.0 new mem r d step (rest more)

pub after_break : (s new : Scene) (mem first : ℕ) (map : Option ℕ) (values : List ℕ) (told : List Told) (r : Region) (d : State) → Meets s mem d → r.first ≤ first →
    first + length values ≤ r.first + r.len
    → RunsInto s (writes_of mem map first values) told new → After s new mem r d
after_break s new mem first map [] [] r d meets low high run = absurd run
after_break s new mem first map (v ∷ values) [] r d meets low high run = absurd run
after_break s new mem first map [] (t ∷ told) r d meets low high run = absurd run
after_break s new mem first map (v ∷ values) (t ∷ []) r d meets low high run = after_write s new mem first v map t.event r d meets (low, omega arith) run.performs
after_break s new mem first map (v ∷ values) (t ∷ u ∷ told) r d meets low high run =
    let step = after_write s run.0 mem first v map t.event r d meets (low, omega arith) run.1.performs in
    after_both s run.0 new mem r d step (after_break run.0 new mem (first + 1) map values (u ∷ told) r step.state (meets_next s run.0 mem r d meets step) (omega arith) (omega arith) run.3)

-- ---- in a clause

pub leaves : (s new : Scene) (mem : ℕ) (r : Region) → IsModel s.model → mem < length s.model.chip.mems → ((d : State) → s.device ≡ Some d → IsSetupOf s.model.chip s.model.layout d.setup)
    → ((d : State) → Meets s mem d → After s new mem r d) → LeavesOutside s.model.chip mem r s.device new.device
leaves s new mem r ok mem_in device after d t before told m i inside low other =
    let a = after d (record { ok = ok; mem_in = mem_in; told = before; setup = device d before }) in
    let same : a.state ≡ t = cc (a.device, told) in
    subst (λ (x : State). peeked x (Loc m i) ≡ peeked d (Loc m i)) same (a.kept m i inside low other)

-- ---- what each call leaves

abbrev pub IsDeviceAt : Scene → Type 0
IsDeviceAt s = (d : State) → s.device ≡ Some d → IsSetupOf s.model.chip s.model.layout d.setup

pub write_leaves : (s new : Scene) (mem index value : ℕ) (map : Option ℕ) (event : Event) (r : Region) → Performs s new (op.MemWrite mem map index value) event → IsModel s.model →
    mem < length s.model.chip.mems → IsDeviceAt s → IsIn r index → LeavesOutside s.model.chip mem r s.device new.device
write_leaves s new mem index value map event r performs ok mem_in device inside = leaves s new mem r ok mem_in device (λ d meets. after_write s new mem index value map event r d meets inside performs)

pub read_leaves : (s new : Scene) (mem index : ℕ) (map : Option ℕ) (event : Event) (r : Region) → Performs s new (op.MemRead mem map index) event → IsModel s.model → mem < length s.model.chip.mems →
    IsDeviceAt s → IsIn r index → LeavesOutside s.model.chip mem r s.device new.device
read_leaves s new mem index map event r performs ok mem_in device inside = leaves s new mem r ok mem_in device (λ d meets. after_read s new mem index map event r d meets inside performs)

after_burst : {R E : Type 0} (takes breaks : R → ModelData → Event → R → Type 0) (old rec : R) (s new : Scene) (granted : Grant) (o : Op) (mem first : ℕ) (map : Option ℕ) (values : List ℕ)
    (result : Result Tally E) (r : Region) (d : State)
    → IsBurst takes breaks old rec s new granted o (writes_of mem map first values) result → Meets s mem d → r.first ≤ first → first + length values ≤ r.first + r.len → After s new mem r d
after_burst takes breaks old rec s new (Ok place) o mem first map values (Ok tally) r d burst meets low high = after_run s new mem first map values burst.told r d meets low high burst.run.0
after_burst takes breaks old rec s new (Ok place) o mem first map values (Err e) r d burst meets low high = after_break s new mem first map values burst.told r d meets low high burst.run
after_burst takes breaks old rec s new (Err why) o mem first map values result r d burst meets low high = after_same s new mem r d burst.refused.unchanged meets.told

pub burst_leaves : {R E : Type 0} (takes breaks : R → ModelData → Event → R → Type 0) (old rec : R) (s new : Scene) (granted : Grant) (o : Op) (mem first : ℕ) (map : Option ℕ) (values : List ℕ)
    (result : Result Tally E) (r : Region)
    → IsBurst takes breaks old rec s new granted o (writes_of mem map first values) result → IsModel s.model → mem < length s.model.chip.mems → IsDeviceAt s → r.first ≤ first →
    first + length values ≤ r.first + r.len → LeavesOutside s.model.chip mem r s.device new.device
burst_leaves takes breaks old rec s new granted o mem first map values result r burst ok mem_in device low high =
    leaves s new mem r ok mem_in device (λ d meets. after_burst takes breaks old rec s new granted o mem first map values result r d burst meets low high)

pub nothing_left : (c : ChipData) (mem : ℕ) (r : Region) (before after : Option State) → after ≡ before → LeavesOutside c mem r before after
nothing_left c mem r before after same s t is_s is_t m i inside low other =
    let equal : t ≡ s = cc in
    ap (λ (x : State). peeked x (Loc m i)) equal

-- ---- the region of an access

pub where_ok : (rs : List Region) (first k count at : ℕ) (Q : Region → Type 0) → Ok at ≡ location_in rs first k count → ((r : Region) → r.first ≤ at → at + count ≤ r.first + r.len → Q r) →
    IfSome (region_at rs first) Q
where_ok rs first k count at Q is each = by (region_at rs first) is
  where
    fits : (r : Region) (t : Bool) → nat_le (k + count) r.len ≡ t → Ok at ≡ cond t (Ok (r.first + k)) (Err (OutsideRegion r.len)) → Q r
    fits r true test e =
        let room : k + count ≤ r.len = grind (arith, nat_tests) in
        let at_is : at ≡ r.first + k = cc in
        each r (omega arith) (omega arith)
    fits r false test e = absurd (cc)

    by : (o : Option Region) → Ok at ≡ location_at o k count → IfSome o Q
    by None e = tt
    by (Some r) e = fits r (nat_le (k + count) r.len) refl e

pub where_err : (o : Option Region) (Q : Region → Type 0) → ((r : Region) → Q r) → IfSome o Q
where_err None Q each = tt
where_err (Some r) Q each = each r
