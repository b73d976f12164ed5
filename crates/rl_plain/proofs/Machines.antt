-- Each call on a device without flaws is the plain machine's.
use Rattle.std.proofs.Common.{◌≡◌, ℕ, ◌<◌, true, false, ◌==◌, List, length, replicate, Option, Some, Ok, Err, MatchResult, refl, sym, ap, ◌∙◌, subst}
use Rattle.std.specs.Prelude.{slice_index, if◌then◌else◌}
use Rattle.std.proofs.lemmas.List.{same_lists, get_or-replicate, length-replicate}
use Rattle.std.proofs.lemmas.List.Elements.{All-get_or}
use Rattle.rl_bus.specs.Account.{Account}
use Rattle.rl_bus.specs.Setup.{location}
use Rattle.rl_bus.specs.Standing.{Standing}
use Rattle.rl_bus.specs.State.{State}
use Rattle.rl_model.specs.Rows.{ChipData}
use Rattle.rl_map.specs.Layout.{LayoutData}
use Rattle.rl_split.specs.Access.{ops_of}
use Rattle.rl_access.specs.declared.event.End.{End}
use Rattle.rl_access.specs.declared.event.End.TheVariants as end
use Rattle.rl_access.specs.declared.event.Event.{Event}
use Rattle.rl_access.specs.declared.event.Op.{Op}
use Rattle.rl_access.specs.declared.event.Op.TheVariants as op
use Rattle.rl_access.specs.declared.predictor.Gathered.{Gathered}
use Rattle.rl_access.specs.Call.{Scene, scene, IsDone, IsRefused, Performs}
use Rattle.rl_access.specs.Gathering.{IsNothingGathered, no_words}
use Rattle.rl_access.specs.Model.{ModelData, IsModel, IsSameChip}
use Rattle.rl_access.specs.Operation.{HasNumbers}
use Rattle.rl_access.specs.Rules.{Grant, grant, location_bytes}
use Rattle.rl_access.proofs.Places.{fresh_predictor}
use Rattle.rl_plain.specs.Agree.{Agree, IsMemoryAccess}
use Rattle.rl_plain.specs.Machine.{Machine, mirror_of, seen, machine_after, machine_end, machine_differ, Done, done_by, machine_step}
use Rattle.rl_plain.specs.Sorts as sort
use Rattle.rl_plain.specs.Sorts.{Sort, sort_of, IsSort, IsOf, LeavesMemories}
use Rattle.rl_plain.specs.Calls.{without_items, IsMachineOf, CallIsPlain, CallKeepsModel, IsOffMemory, RegisterCallIsPlain}
use Rattle.rl_plain.proofs.AccessSteps.{access_step}
use Rattle.rl_plain.proofs.Hardware.{volatile_where}
use Rattle.rl_plain.proofs.Kept.{IsKept, model_kept, model_with}
use Rattle.rl_plain.proofs.MachineSteps.{HasContents, nowhere, everywhere, contents_stay, contents_stored, IsMachineStep}
use Rattle.rl_plain.proofs.MemoryAccesses.{IsMemoryStep, stored, loaded, write_place, read_place, check_place, write_step_is, read_step_is, check_step_is, memory_agrees}
use Rattle.rl_plain.proofs.QuietSteps.{quiet_step, back_step, wish_step, reset_step, memory_step, burst_step}
use Rattle.rl_plain.proofs.Told.{done_told, refused_told}

-- ---- accesses to a memory over the bus

loads : (c : ChipData) (l : LayoutData) (p : Machine) (adapters : List Standing) (account : Account) (told : Option State) (new : Scene) (op : Op) (event : Event) (place count : ℕ) (e : End) (found : ℕ) →
    let s = scene (seen c l p) adapters account told in
    IsModel s.model → (a : Agree s) → HasContents everywhere c a.device p → IsMemoryStep s new event (loaded a.device count) e found → machine_after c l op place p ≡ p →
    e ≡ machine_end c l op place p → found ≡ machine_differ op p →
    IsMachineStep everywhere c l p new op place event
loads c l p adapters account told new op event place count e found ok a has st same ended differs =
    let s = scene (seen c l p) adapters account told in
    let after = loaded a.device count in
    quiet_step c l p new op place event after (mirror_of p) e found (memory_agrees s new event after e found a st refl refl) st.model st.told st.ends st.finds (model_kept s.model ok)
    (ap mirror_of (sym same)) ended differs
    (subst (HasContents everywhere c after) (sym same) (contents_stay c a.device after p p has refl refl refl))

memory_access_step : (c : ChipData) (l : LayoutData) (p : Machine) (adapters : List Standing) (account : Account) (told : Option State) (new : Scene) (op : Op) (event : Event) (place : ℕ) →
    let s = scene (seen c l p) adapters account told in
    IsMemoryAccess op → HasNumbers c (length l.maps) op → IsModel s.model → (a : Agree s) → HasContents everywhere c a.device p → grant s.model op ≡ Ok place → IsDone s new op place event →
    IsMachineStep everywhere c l p new op place event
memory_access_step c l p adapters account told new (op.MemWrite mem map index value) event place is numbers ok a has granted done =
    let s = scene (seen c l p) adapters account told in
    let d = a.device in
    let at = write_place s.model mem index value map place granted in
    let count = length (ops_of l place index (location_bytes s.model mem) value true) in
    let after = stored d mem index value count in
    let st = write_step_is s new mem index value map event place ok a numbers.0 (has.at mem index tt numbers.0 at.0).has granted done in
    quiet_step c l p new (op.MemWrite mem map index value) place event after (mirror_of p) end.Done 0 (memory_agrees s new event after end.Done 0 a st refl refl) st.model st.told st.ends st.finds
    (model_kept (seen c l p) ok) refl refl refl
    (contents_stored c l d after p mem index value has a.believed_is.ready.setup numbers.0 at.0 at.1 refl refl)
memory_access_step c l p adapters account told new (op.MemRead mem map index) event place is numbers ok a has granted done =
    let s = scene (seen c l p) adapters account told in
    let h = has.at mem index tt numbers.0 (read_place s.model mem index map place granted) in
    let count = length (ops_of l place index (location_bytes s.model mem) 0 false) in
    loads c l p adapters account told new (op.MemRead mem map index) event place count (end.Value (slice_index a.device.locations (location a.device.setup mem index))) 0 ok a has
    (read_step_is s new mem index map event place ok a h.has granted done) refl (ap end.Value h.holds) refl
memory_access_step c l p adapters account told new (op.MemCheck mem map index value) event place is numbers ok a has granted done =
    let s = scene (seen c l p) adapters account told in
    let h = has.at mem index tt numbers.0 (check_place s.model mem index value map place granted) in
    let count = length (ops_of l place index (location_bytes s.model mem) 0 false) in
    let held = slice_index a.device.locations (location a.device.setup mem index) in
    loads c l p adapters account told new (op.MemCheck mem map index value) event place count (end.Value held) (if held == value then 0 else 1) ok a has
    (check_step_is s new mem index value map event place ok a h.has granted done) refl (ap end.Value h.holds) (ap (λ x. if x == value then 0 else 1) h.holds)
memory_access_step c l p adapters account told new _ event place is numbers ok a has granted done = absurd is

-- ---- each operation

same_sort : (k : Sort) → IsSort k k
same_sort sort.access = tt
same_sort _ = tt

is_of : (k : Sort) (op : Op) → sort_of op ≡ k → IsOf k op
is_of k op e = subst (IsSort k) (sym e) (same_sort k)

-- the sorts whose operations are each by the one call of the sort, and leave the memories
abbrev IsPlainSort : Sort → Type 0
IsPlainSort sort.access = Unit {0}
IsPlainSort sort.wish = Unit {0}
IsPlainSort sort.backdoor = Unit {0}
IsPlainSort sort.burst = Unit {0}
IsPlainSort _ = ⊥

sort_step : {which : ℕ → ℕ → Type 0} (c : ChipData) (l : LayoutData) (p : Machine) (adapters : List Standing) (account : Account) (told : Option State) (new : Scene) (op : Op) (event : Event) (place : ℕ) →
    let s = scene (seen c l p) adapters account told in
    (k : Sort) → sort_of op ≡ k → IsPlainSort k → HasNumbers c (length l.maps) op → IsModel s.model → (a : Agree s) → HasContents which c a.device p → grant s.model op ≡ Ok place
    → IsDone s new op place event → IsMachineStep which c l p new op place event
sort_step c l p ad er t new op event place sort.access e plain numbers ok a has granted done = access_step c l p ad er t new op event place (is_of sort.access op e) numbers ok a has granted done
sort_step c l p ad er t new op event place sort.wish e plain numbers ok a has granted done = wish_step c l p ad er t new op event place (is_of sort.wish op e) numbers ok a has done
sort_step c l p ad er t new op event place sort.backdoor e plain numbers ok a has granted done = back_step c l p ad er t new op event place (is_of sort.backdoor op e) numbers ok a has done
sort_step c l p ad er t new op event place sort.burst e plain numbers ok a has granted done = burst_step c l p ad er t new op event place (is_of sort.burst op e) ok a has done
sort_step c l p ad er t new op event place _ e plain numbers ok a has granted done = absurd plain

off_step : {which : ℕ → ℕ → Type 0} (c : ChipData) (l : LayoutData) (p : Machine) (adapters : List Standing) (account : Account) (told : Option State) (new : Scene) (op : Op) (event : Event) (place : ℕ) →
    let s = scene (seen c l p) adapters account told in
    IsOffMemory op → HasNumbers c (length l.maps) op → IsModel s.model → (a : Agree s) → HasContents which c a.device p → grant s.model op ≡ Ok place → IsDone s new op place event →
    IsMachineStep which c l p new op place event
off_step c l p ad er t new (op.Hw field value) event place off numbers ok a has granted done =
    let clash : false ≡ true = sym (a.believed_is.steady field numbers) ∙ volatile_where (seen c l p) field value place granted in
    absurd (cc)
off_step c l p ad er t new (op.Reset kind) event place off numbers ok a has granted done = reset_step c l p ad er t new kind event place ok a has done
off_step c l p ad er t new op event place off numbers ok a has granted done = sort_step c l p ad er t new op event place (sort_of op) refl off numbers ok a has granted done

any_step : (c : ChipData) (l : LayoutData) (p : Machine) (adapters : List Standing) (account : Account) (told : Option State) (new : Scene) (op : Op) (event : Event) (place : ℕ) →
    let s = scene (seen c l p) adapters account told in
    (k : Sort) → sort_of op ≡ k → HasNumbers c (length l.maps) op → IsModel s.model → (a : Agree s) → HasContents everywhere c a.device p → grant s.model op ≡ Ok place
    → IsDone s new op place event → IsMachineStep everywhere c l p new op place event
any_step c l p ad er t new op event place sort.memory_access e numbers ok a has granted done =
    memory_access_step c l p ad er t new op event place (is_of sort.memory_access op e) numbers ok a has granted done
any_step c l p ad er t new op event place sort.memory_backdoor e numbers ok a has granted done =
    memory_step c l p ad er t new op event place (is_of sort.memory_backdoor op e) numbers ok a has granted done
any_step c l p ad er t new op event place _ e numbers ok a has granted done = off_step c l p ad er t new op event place (subst LeavesMemories (sym e) tt) numbers ok a has granted done

each_step : (c : ChipData) (l : LayoutData) (p : Machine) (adapters : List Standing) (account : Account) (told : Option State) (new : Scene) (op : Op) (event : Event) (place : ℕ) →
    let s = scene (seen c l p) adapters account told in
    HasNumbers c (length l.maps) op → IsModel s.model → (a : Agree s) → HasContents everywhere c a.device p → grant s.model op ≡ Ok place → IsDone s new op place event →
    IsMachineStep everywhere c l p new op place event
each_step c l p ad er t new op event place numbers ok a has granted done = any_step c l p ad er t new op event place (sort_of op) refl numbers ok a has granted done

-- ---- the device and the model are the machine's again

-- nothing gathered, of so many places
pub none_of : (gathered : List Gathered) (n : ℕ) → length gathered ≡ n → IsNothingGathered gathered → gathered ≡ replicate n no_words
none_of gathered n many none =
    same_lists gathered (replicate n no_words) (many ∙ sym (length-replicate n no_words))
    (λ k d inside. All-get_or (λ g. g ≡ no_words) gathered k d inside none ∙ sym (get_or-replicate n k no_words d (subst (λ j. k < j) many inside)))

pub seen_is : (c : ChipData) (l : LayoutData) (q : Machine) (m : ModelData) → m.chip ≡ c → m.layout ≡ l → m.mirror ≡ mirror_of q → m.gathered ≡ replicate (length l.places) no_words → m ≡ seen c l q
seen_is c l q m chip layout mirror gathered =
    ap (λ x. let y : ModelData = record m { chip = x } in y) chip
    ∙ ap (λ x. let y : ModelData = record m { chip = c; layout = x } in y) layout
    ∙ ap (λ x. let y : ModelData = record m { chip = c; layout = l; mirror = x } in y) mirror
    ∙ ap (λ x. let y : ModelData = record { chip = c; layout = l; mirror = mirror_of q; gathered = x } in y) gathered

-- a model, and the machine of it, after a call
pub record IsPlainAfter (old : ModelData) (new : Scene) (event : Event) (done : Done) : Type 0 where
  pub machine : IsMachineOf new done.machine
  pub ok : IsModel new.model
  pub same : IsSameChip old new.model
  pub event_is : without_items event ≡ done.event

step_model : {which : ℕ → ℕ → Type 0} (c : ChipData) (l : LayoutData) (p : Machine) (new : Scene) (op : Op) (place : ℕ) (event : Event) → IsMachineStep which c l p new op place event →
    new.model ≡ seen c l (machine_after c l op place p)
step_model c l p new op place event st =
    seen_is c l (machine_after c l op place p) new.model st.chip st.layout st.mirror (none_of new.model.gathered (length l.places) st.many st.agree.gathered)

-- as its own chip and layout have it
own_model : {which : ℕ → ℕ → Type 0} (c : ChipData) (l : LayoutData) (p : Machine) (new : Scene) (op : Op) (place : ℕ) (event : Event) → IsMachineStep which c l p new op place event →
    new.model ≡ seen new.model.chip new.model.layout (machine_after c l op place p)
own_model c l p new op place event st =
    let q = machine_after c l op place p in
    step_model c l p new op place event st ∙ ap (λ x. seen x l q) (sym st.chip) ∙ ap (λ x. seen new.model.chip x q) (sym st.layout)

machine_again : (c : ChipData) (l : LayoutData) (p : Machine) (new : Scene) (op : Op) (place : ℕ) (event : Event) → IsMachineStep everywhere c l p new op place event →
    IsMachineOf new (machine_after c l op place p)
machine_again c l p new op place event st =
    let q = machine_after c l op place p in
    let both : Some st.after ≡ Some st.agree.device = sym st.told ∙ st.agree.told in
    let same : st.after ≡ st.agree.device = cc in
    record {
      agree = st.agree;
      model = own_model c l p new op place event st;
      locations = λ mem index inside low. (subst (λ k. HasContents everywhere k st.agree.device q) (sym st.chip) (subst (λ x. HasContents everywhere c x q) same st.contents)).at mem index tt inside
          low;
    }

model_again : {which : ℕ → ℕ → Type 0} (c : ChipData) (l : LayoutData) (p : Machine) (new : Scene) (op : Op) (place : ℕ) (event : Event) → IsModel (seen c l p) →
    IsMachineStep which c l p new op place event → IsModel new.model
model_again c l p new op place event ok st =
    let q = machine_after c l op place p in
    let kept : IsKept c (mirror_of q) = subst (IsKept c) st.mirror st.kept in
    subst IsModel (sym (step_model c l p new op place event st))
    (model_with (seen c l p) (mirror_of q) (seen c l q).gathered ok kept (fresh_predictor l (length l.places) ok.layout refl))

-- ---- the call

by_grant : (c : ChipData) (l : LayoutData) (p : Machine) (ad : List Standing) (er : Account) (t : Option State) (new : Scene) (op : Op) (event : Event) (g : Grant) →
    let s = scene (seen c l p) ad er t in
    grant s.model op ≡ g → HasNumbers c (length l.maps) op → IsModel s.model → IsMachineOf s p → MatchResult g (λ place. IsDone s new op place event) (λ why. IsRefused s new op why event) →
    IsPlainAfter s.model new event (done_by c l op p g)
by_grant c l p ad er t new op event (Ok place) granted numbers ok is done =
    let s = scene (seen c l p) ad er t in
    let st = each_step c l p ad er t new op event place numbers ok is.agree (record { at = λ mem index on inside low. is.locations mem index inside low }) granted done in
    record {
      machine = machine_again c l p new op place event st;
      ok = model_again c l p new op place event ok st;
      same = record { chip = st.chip; layout = st.layout };
      event_is = done_told s new op place event (machine_end c l op place p) (machine_differ op p) (machine_after c l op place p) done st.ends st.finds st.mirror;
    }
by_grant c l p ad er t new op event (Err why) granted numbers ok is refused =
    let s = scene (seen c l p) ad er t in
    record {
      machine = subst (λ x. IsMachineOf x p) (sym refused.unchanged) is;
      ok = subst (λ (x : Scene). IsModel x.model) (sym refused.unchanged) ok;
      same = record { chip = ap (λ (x : Scene). x.model.chip) refused.unchanged; layout = ap (λ (x : Scene). x.model.layout) refused.unchanged };
      event_is = refused_told s new op why event p refused refl;
    }

at_machine : (c : ChipData) (l : LayoutData) (p : Machine) (ad : List Standing) (er : Account) (t : Option State) (new : Scene) (op : Op) (event : Event) →
    let s = scene (seen c l p) ad er t in
    HasNumbers c (length l.maps) op → IsModel s.model → IsMachineOf s p → Performs s new op event → IsPlainAfter s.model new event (machine_step c l p op)
unfolding machine_step
at_machine c l p ad er t new op event numbers ok is performs = by_grant c l p ad er t new op event (grant (seen c l p) op) refl numbers ok is performs

-- what is asked of the model, and what then holds
abbrev IsPlainFrom : (p : Machine) (ad : List Standing) (er : Account) (t : Option State) (new : Scene) (op : Op) (event : Event) → ModelData → Type 0
IsPlainFrom p ad er t new op event m =
    let s = scene m ad er t in
    HasNumbers m.chip (length m.layout.maps) op → IsModel m → IsMachineOf s p → Performs s new op event → IsPlainAfter m new event (machine_step m.chip m.layout p op)

pub plain_after : (s new : Scene) (op : Op) (event : Event) (p : Machine) → HasNumbers s.model.chip (length s.model.layout.maps) op → IsModel s.model → IsMachineOf s p → Performs s new op event →
    IsPlainAfter s.model new event (machine_step s.model.chip s.model.layout p op)
plain_after s new op event p numbers ok is performs =
    subst (IsPlainFrom p s.adapters s.account s.device new op event) (sym is.model) (at_machine s.model.chip s.model.layout p s.adapters s.account s.device new op event) numbers ok is performs

pub call_is_plain : CallIsPlain
call_is_plain s new op event p numbers ok is performs = let after = plain_after s new op event p numbers ok is performs in (after.machine, after.event_is)

pub call_keeps_model : CallKeepsModel
call_keeps_model s new op event p numbers ok is performs = let after = plain_after s new op event p numbers ok is performs in (after.ok, after.same)

-- ---- of the registers alone, whatever the device has in its locations

-- a machine that is told by nothing but what is believed
abbrev IsSeenAfter : (new : Scene) → Event → Done → Type 0
IsSeenAfter new event done = Agree new × (new.model ≡ seen new.model.chip new.model.layout done.machine) × (without_items event ≡ done.event)

off_grant : (c : ChipData) (l : LayoutData) (p : Machine) (ad : List Standing) (er : Account) (t : Option State) (new : Scene) (op : Op) (event : Event) (g : Grant) →
    let s = scene (seen c l p) ad er t in
    grant s.model op ≡ g → IsOffMemory op → HasNumbers c (length l.maps) op → IsModel s.model → Agree s → MatchResult g (λ place. IsDone s new op place event) (λ why. IsRefused s new op why event) →
    IsSeenAfter new event (done_by c l op p g)
off_grant c l p ad er t new op event (Ok place) granted off numbers ok a done =
    let s = scene (seen c l p) ad er t in
    let none : HasContents nowhere c a.device p = record { at = λ mem index on inside low. absurd on } in
    let st = off_step c l p ad er t new op event place off numbers ok a none granted done in
    (st.agree, own_model c l p new op place event st, done_told s new op place event (machine_end c l op place p) (machine_differ op p) (machine_after c l op place p) done st.ends st.finds st.mirror)
off_grant c l p ad er t new op event (Err why) granted off numbers ok a refused =
    let s = scene (seen c l p) ad er t in
    (subst Agree (sym refused.unchanged) a, subst (λ (x : Scene). x.model ≡ seen x.model.chip x.model.layout p) (sym refused.unchanged) refl, refused_told s new op why event p refused refl)

off_machine : (c : ChipData) (l : LayoutData) (p : Machine) (ad : List Standing) (er : Account) (t : Option State) (new : Scene) (op : Op) (event : Event) →
    let s = scene (seen c l p) ad er t in
    IsOffMemory op → HasNumbers c (length l.maps) op → IsModel s.model → Agree s → Performs s new op event → IsSeenAfter new event (machine_step c l p op)
unfolding machine_step
off_machine c l p ad er t new op event off numbers ok a performs = off_grant c l p ad er t new op event (grant (seen c l p) op) refl off numbers ok a performs

abbrev IsSeenFrom : (p : Machine) (ad : List Standing) (er : Account) (t : Option State) (new : Scene) (op : Op) (event : Event) → ModelData → Type 0
IsSeenFrom p ad er t new op event m =
    let s = scene m ad er t in
    IsOffMemory op → HasNumbers m.chip (length m.layout.maps) op → IsModel m → Agree s → Performs s new op event → IsSeenAfter new event (machine_step m.chip m.layout p op)

pub register_call_is_plain : RegisterCallIsPlain
register_call_is_plain s new op event p off numbers ok a is performs =
    subst (IsSeenFrom p s.adapters s.account s.device new op event) (sym is) (off_machine s.model.chip s.model.layout p s.adapters s.account s.device new op event) off numbers ok a performs
