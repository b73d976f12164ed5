-- Over a device with deaf items `mem_walk` marks no check but of a deaf memory: a location that hears holds what was written.
use Rattle.std.proofs.Common.{◌≡◌, ◌⊎◌, ℕ, zero, suc, ◌+◌, ◌^◌, ◌<◌, ◌==◌, eq-eqb, Bool, true, false, ◌&&◌, List, [], ◌∷◌, ◌++◌, length, All}
use Rattle.std.proofs.Common.{Option, None, Some, option_map, Ok, if◌then◌else◌, refl, sym, ap, ◌∙◌, subst, inl, inr, arith}
use Rattle.std.specs.Prelude.{slice_index, slice_set, sum_by}
use Rattle.std.proofs.lemmas.Bool.{and_parts, cases_eq}
use Rattle.std.proofs.lemmas.List.{get_or-set_same, get_or-set_other}
use Rattle.std.proofs.lemmas.List.Elements.{All-nil, All-cons, All-append}
use Rattle.rl_bus.specs.declared.op.BusOp.{BusOp}
use Rattle.rl_bus.specs.declared.table.Cell.TheVariants.{Loc}
use Rattle.rl_bus.specs.Setup.{Setup, location, is_deaf}
use Rattle.rl_bus.specs.Standing.{standing_at}
use Rattle.rl_bus.specs.State.{State}
use Rattle.rl_model.specs.Rows.{ChipData}
use Rattle.rl_model.specs.declared.rows.Item.TheVariants.{Mem}
use Rattle.rl_map.specs.Layout.{LayoutData, place_of}
use Rattle.rl_map.specs.Tables.{setup_of}
use Rattle.rl_split.specs.Access.{ops_of}
use Rattle.rl_split.specs.Law.{no_flaws, HasLocation}
use Rattle.rl_split.specs.Runs.{answers_of, state_after_all as ops_after}
use Rattle.rl_access.specs.declared.event.End.TheVariants as end
use Rattle.rl_access.specs.declared.event.Event.{Event}
use Rattle.rl_access.specs.declared.event.Op.{Op}
use Rattle.rl_access.specs.declared.event.Op.TheVariants as op
use Rattle.rl_access.specs.Call.{Scene, IsDone, Performs}
use Rattle.rl_access.specs.HandsOver.{Told}
use Rattle.rl_access.specs.Items.{failed_at, items_of, state_after_all, port_for, adapter_for}
use Rattle.rl_access.specs.Model.{ModelData, IsModel}
use Rattle.rl_access.specs.Operation.{location_size, register_of}
use Rattle.rl_access.specs.Rules.{grant, named, memory_size, is_writable, location_bytes, sends, Outcome, outcome, quiet}
use Rattle.rl_access.proofs.Setups.{setup-state_after_all}
use Rattle.rl_seq.specs.declared.sequence.Sequence.TheVariants.{MemWalk}
use Rattle.rl_seq.specs.Choice.{is_of, is_tested, may_read, may_write, low_bits, turned_round, exclusion_from}
use Rattle.rl_seq.specs.Plan.{Plan, stop, step, look, followed_by, only_if, each_below, Runs}
use Rattle.rl_seq.specs.Sequences.{map_at, check_filled, write_number, settle_before, check_last, walk_location, is_chosen, is_visited, at_place, visit, visit_all, walk}
use Rattle.rl_seq.proofs.Granting.{found}
use Rattle.rl_plain.proofs.Accesses.{all_written}
use Rattle.rl_plain.proofs.Answered.{answered, none_failed, done_of}
use Rattle.rl_plain.proofs.Locations.{location_within}
use Rattle.rl_plain.proofs.MemoryAccesses.{write_granted, check_granted, stored_at, loaded_at}
use Rattle.rl_plain.proofs.Outcomes.{good_is}
use Rattle.rl_detect_laws.specs.Devices.{IsSetUp}
use Rattle.rl_detect_laws.specs.Deaf.{MarksDeaf, OnlyDeafIsMarked}
use Rattle.rl_detect_laws.proofs.DeafWalk.{IsDeafSetup, deaf_setup, ready_twin, model_stays, differ_is, IsWalkCheck, walk_check, IsChecked, check_done, marks}
use Rattle.rl_detect_laws.proofs.Heard.{IsSame, begins, all_follow}
use Rattle.rl_detect_laws.proofs.Reaching.{IsPlaceOf, is_place, mem_write_is, mem_check_granted, mem_number_granted}
use Rattle.rl_detect_laws.proofs.Twins.{hearing, heard, none_fails}
use Rattle.rl_detect_laws.proofs.Untouched.{DeafKept, all_kept}

-- ---- what stands

-- the event is no marked one, or is of a deaf memory
abbrev IsRight : ChipData → State → Event → Type 0
IsRight c first e = (e.differ ≡ 0) ⊎ MarksDeaf c first e

-- a device set up as the first one, whose locations fit and are so; its deaf memories hold what they did at first
record Walking (m : ModelData) (first : State) (Holds : List ℕ → Type 0) (s : Scene) : Type 0 where
  model : s.model ≡ m
  device : State
  told : s.device ≡ Some device
  set_up : IsSetUp m.chip first.setup device
  long : length device.locations ≡ sum_by (λ m. m.size) m.chip.mems
  fits : (n i : ℕ) → n < length m.chip.mems → i < memory_size m.chip n → slice_index device.locations (location first.setup n i) < 256 ^ location_size m.chip n
  deaf : DeafKept m.chip first.setup first.locations device.locations
  holds : Holds device.locations

weaken : (m : ModelData) (first : State) (P Q : List ℕ → Type 0) (s : Scene) → ((xs : List ℕ) → P xs → Q xs) → Walking m first P s → Walking m first Q s
weaken m first P Q s f h = record {
  model = h.model;
  device = h.device;
  told = h.told;
  set_up = h.set_up;
  long = h.long;
  fits = h.fits;
  deaf = h.deaf;
  holds = f h.device.locations h.holds;
}

-- ---- one access

-- what the locations were, of which these hold the same in each memory that hears, once that was changed so
record Comes (m : ModelData) (t : Setup) (P : List ℕ → Type 0) (change : List ℕ → List ℕ) (zs : List ℕ) : Type 0 where
  old : List ℕ
  was : P old
  long : length old ≡ sum_by (λ m. m.size) m.chip.mems
  same : IsSame m.chip t zs (change old)

by_deaf : (c : ChipData) (t : Setup) (n i : ℕ) (b : Bool) (N : ℕ) (xs ys zs : List ℕ) → is_deaf t (Loc n i) ≡ b → n < length c.mems → i < memory_size c n
    → DeafKept c t xs zs → IsSame c t zs ys → slice_index xs (location t n i) < N → slice_index ys (location t n i) < N → slice_index zs (location t n i) < N
by_deaf c t n i true N xs ys zs so inside low kept same h k = subst (λ v. v < N) (sym (kept n i inside low so)) h
by_deaf c t n i false N xs ys zs so inside low kept same h k = subst (λ v. v < N) (sym (same.same n i inside low so)) k

-- operations that the hearing twin answers, and that change its locations so
moved : (s new : Scene) (first : State) (P : List ℕ → Type 0) (change : List ℕ → List ℕ) (place : ℕ) (o : Op) (e : Event) (ops : List BusOp)
    → IsDeafSetup s.model.chip s.model.layout first.setup → (h : Walking s.model first P s) → IsDone s new o place e → sends s.model o place ≡ ops
    → new.model ≡ s.model → new.device ≡ Some (state_after_all h.device e.trace)
    → All (λ a. a.failed ≡ false) (answers_of (heard h.device) (port_for s.model.layout place) ops)
    → ((port address : ℕ) → (ops_after (heard h.device) (port_for s.model.layout place) ops).beats port address ≡ 0)
    → (ops_after (heard h.device) (port_for s.model.layout place) ops).locations ≡ change h.device.locations
    → ((n i : ℕ) → n < length s.model.chip.mems → i < memory_size s.model.chip n
    → slice_index (change h.device.locations) (location first.setup n i) < 256 ^ location_size s.model.chip n)
    → (failed_at e.trace ≡ None) × Walking s.model first (Comes s.model first.setup P change) new
moved s new first P change place o e ops deaf h done sent model goes fine beats left fits =
    let m = s.model in
    let c = m.chip in
    let t = first.setup in
    let d = h.device in
    let port = port_for m.layout place in
    let adapter = standing_at s.adapters (adapter_for m.layout place) in
    let begun = begins c t d h.set_up.setup in
    let ans = answered adapter d port ops (none_fails d (heard d) port ops begun.alike fine) in
    let trace : e.trace ≡ items_of adapter d port ops = done.answers d h.told ∙ ap (items_of adapter d port) sent in
    let after : state_after_all d e.trace ≡ ops_after d port ops = ap (state_after_all d) trace ∙ ans.state in
    let z = all_follow c t d (heard d) port ops deaf.guarded begun in
    let kept = all_kept c t d e.trace deaf.guarded h.set_up.setup in
    let same : IsSame c t (state_after_all d e.trace).locations (change d.locations) =
    subst (λ (x : State). IsSame c t x.locations (change d.locations)) (sym after)
    (subst (IsSame c t (ops_after d port ops).locations) left z.same) in (
      ap failed_at trace ∙ none_failed adapter d port ops ans,
      record {
        model = model;
        device = state_after_all d e.trace;
        told = goes;
        set_up = record {
          setup = setup-state_after_all d e.trace ∙ h.set_up.setup;
          beats = λ p a. ap (λ (y : State). y.beats p a) after ∙ sym (ap (λ (b : ℕ → ℕ → ℕ). b p a) z.alike.beats) ∙ beats p a;
          bits = kept.bits ∙ h.set_up.bits;
          marks = kept.marks ∙ h.set_up.marks;
        };
        long = kept.locations ∙ h.long;
        fits = λ n i inside low. by_deaf c t n i (is_deaf t (Loc n i)) (256 ^ location_size c n) d.locations (change d.locations) (state_after_all d e.trace).locations
            refl inside low kept.deaf same (h.fits n i inside low) (fits n i inside low);
        deaf = λ n i inside low so. kept.deaf n i inside low so ∙ h.deaf n i inside low so;
        holds = record { old = d.locations; was = h.holds; long = h.long; same = same };
      },
    )

-- the twin has each location
has_heard : (m : ModelData) (first : State) (P : List ℕ → Type 0) (s : Scene) (n k : ℕ) → IsDeafSetup m.chip m.layout first.setup → (h : Walking m first P s)
    → n < length m.chip.mems → k < memory_size m.chip n → HasLocation (heard h.device) n k (location_size m.chip n)
has_heard m first P s n k deaf h inside low =
    let c = m.chip in
    let l = m.layout in
    let d = h.device in
    let t = first.setup in
    let at : location (heard d).setup n k ≡ location t n k = ap (λ (u : Setup). location u n k) h.set_up.setup in
    let plain : location t n k ≡ location (setup_of c l no_flaws) n k = ap (λ (u : Setup). location u n k) deaf.hears in
    record {
      inside = subst (λ a. a < length d.locations) (sym (at ∙ plain))
          (subst (λ z. location (setup_of c l no_flaws) n k < z) (sym h.long) (location_within c l n k inside low));
      fits = subst (λ a. slice_index d.locations a < 256 ^ location_size c n) (sym at) (h.fits n k inside low);
    }

-- a value that is set at one location fits there
set_fits : (c : ChipData) (l : LayoutData) (t : Setup) (xs : List ℕ) (n k v m i : ℕ) → IsDeafSetup c l t → n < length c.mems → k < memory_size c n
    → m < length c.mems → i < memory_size c m → location t n k < length xs → v < 256 ^ location_size c n
    → slice_index xs (location t m i) < 256 ^ location_size c m → slice_index (slice_set xs (location t n k) v) (location t m i) < 256 ^ location_size c m
set_fits c l t xs n k v m i deaf inside low within below room small old = by (cases_eq (location t m i) (location t n k))
  where
    by : (location t m i ≡ location t n k) ⊎ (location t m i ≡ location t n k → ⊥)
        → slice_index (slice_set xs (location t n k) v) (location t m i) < 256 ^ location_size c m
    by (inl meets) =
        let is : m ≡ n = deaf.guarded.apart m i n k within below inside low meets in
        let there : slice_index (slice_set xs (location t n k) v) (location t m i) ≡ v =
        ap (slice_index (slice_set xs (location t n k) v)) meets ∙ get_or-set_same xs (location t n k) v 0 room in
        subst (λ x. x < 256 ^ location_size c m) (sym there) (subst (λ j. v < 256 ^ location_size c j) (sym is) small)
    by (inr other) = subst (λ x. x < 256 ^ location_size c m) (sym (get_or-set_other xs (location t n k) (location t m i) v 0 other)) old

abbrev Wrote : ModelData → Setup → (n k v : ℕ) → (List ℕ → Type 0) → List ℕ → Type 0
Wrote m t n k v P zs = Comes m t P (λ xs. slice_set xs (location t n k) v) zs

abbrev Kept : ModelData → Setup → (List ℕ → Type 0) → List ℕ → Type 0
Kept m t P zs = Comes m t P (λ xs. xs) zs

write_done : (s new : Scene) (first : State) (P : List ℕ → Type 0) (n k v place : ℕ) (map : Option ℕ) (e : Event) → IsModel s.model
    → IsDeafSetup s.model.chip s.model.layout first.setup → n < length s.model.chip.mems → Walking s.model first P s
    → grant s.model (op.MemWrite n map k v) ≡ Ok place → IsDone s new (op.MemWrite n map k v) place e
    → IsRight s.model.chip first e × Walking s.model first (Wrote s.model first.setup n k v P) new
write_done s new first P n k v place map e ok deaf inside h granted done =
    let m = s.model in
    let c = m.chip in
    let l = m.layout in
    let d = h.device in
    let t = first.setup in
    let o = op.MemWrite n map k v in
    let by = write_granted m n k v map place granted in
    let low = by.granted.index_in in
    let has = has_heard m first P s n k deaf h inside low in
    let store = stored_at m n k v place (heard d) ok (ready_twin c l t d d.locations deaf.hears h.set_up) inside has by in
    let ops = ops_of l place k (location_bytes m n) v true in
    let at : location (heard d).setup n k ≡ location t n k = ap (λ (u : Setup). location u n k) h.set_up.setup in
    let room : location t n k < length d.locations = subst (λ a. a < length d.locations) at has.inside in
    let after = moved s new first P (λ xs. slice_set xs (location t n k) v) place o e ops deaf h done refl
    (done.model ∙ model_stays m o place done.sampled e.trace tt)
    (done.goes ∙ ap (option_map (λ (y : State). state_after_all y e.trace)) h.told)
    (all_written (answers_of (heard d) (port_for l place) ops) ops store.answers) store.ready.beats
    (ap (λ (x : State). x.locations) store.state ∙ ap (λ a. slice_set d.locations a v) at)
    (λ j i within below. set_fits c l t d.locations n k v j i deaf inside low within below room by.small (h.fits j i within below)) in
    let out = outcome m o place done.sampled e.trace in (
      inl (ap (λ (y : Event). y.differ) done.event_is
          ∙ differ_is (register_of c (named m o)) (named m o) e.trace out
          ∙ ap (λ (x : Outcome). x.differ) (good_is (failed_at e.trace) m (quiet end.Done m) after.0)),
      after.1,
    )

-- the location holds its number turned round, where its memory hears
abbrev IsFilled : ChipData → Setup → (mem k : ℕ) → List ℕ → Type 0
IsFilled c t mem k xs = is_deaf t (Loc mem k) ≡ false → slice_index xs (location t mem k) ≡ turned_round c (Mem mem) k

right_check : (m : ModelData) (first : State) (P : List ℕ → Type 0) (s : Scene) (n k place : ℕ) (e : Event) (b : Bool) → is_deaf first.setup (Loc n k) ≡ b
    → n < length m.chip.mems → k < memory_size m.chip n → (h : Walking m first P s) → IsFilled m.chip first.setup n k h.device.locations
    → IsChecked m n place k (slice_index h.device.locations (location first.setup n k)) e → IsRight m.chip first e
right_check m first P s n k place e false so inside low h filled checked =
    let x = slice_index h.device.locations (location first.setup n k) in
    inl (checked.differ ∙ ap (λ b. if b then 0 else 1) (eq-eqb x (turned_round m.chip (Mem n) k) (filled so)))
right_check m first P s n k place e true so inside low h filled checked = by (cases_eq x (turned_round m.chip (Mem n) k))
  where
    x : ℕ
    x = slice_index h.device.locations (location first.setup n k)

    was : x ≡ slice_index first.locations (location first.setup n k)
    was = h.deaf n k inside low so

    by : (x ≡ turned_round m.chip (Mem n) k) ⊎ (x ≡ turned_round m.chip (Mem n) k → ⊥) → IsRight m.chip first e
    by (inl same) = inl (checked.differ ∙ ap (λ b. if b then 0 else 1) (eq-eqb x (turned_round m.chip (Mem n) k) same))
    by (inr other) =
        inr (record {
          mem = n;
          map = map_at m.layout place;
          index = k;
          deaf = record {
            index_in = low;
            deaf = so;
            fits = subst (λ y. y < 256 ^ location_size m.chip n) was (h.fits n k inside low);
            other = λ same. other (was ∙ same);
          };
          check = marks m n place k (slice_index first.locations (location first.setup n k)) e
              (subst (λ y. IsChecked m n place k y e) was checked) (λ same. other (was ∙ same));
        })

check_step : (s new : Scene) (first : State) (P : List ℕ → Type 0) (n k place : ℕ) (e : Event) → IsModel s.model
    → IsDeafSetup s.model.chip s.model.layout first.setup → n < length s.model.chip.mems → (h : Walking s.model first P s)
    → IsFilled s.model.chip first.setup n k h.device.locations
    → place_of s.model.layout (Mem n) (Some (map_at s.model.layout place)) ≡ Some place
    → grant s.model (walk_check s.model n place k) ≡ Ok place → IsDone s new (walk_check s.model n place k) place e
    → IsRight s.model.chip first e × Walking s.model first (Kept s.model first.setup P) new
check_step s new first P n k place e ok deaf inside h filled there granted done =
    let m = s.model in
    let c = m.chip in
    let l = m.layout in
    let d = h.device in
    let t = first.setup in
    let o = walk_check m n place k in
    let by = check_granted m n k (turned_round c (Mem n) k) (Some (map_at l place)) place granted in
    let low = by.index_in in
    let has = has_heard m first P s n k deaf h inside low in
    let load = loaded_at m n k place (heard d) ok (ready_twin c l t d d.locations deaf.hears h.set_up) has by in
    let ops = ops_of l place k (location_bytes m n) 0 false in
    let x = slice_index d.locations (location t n k) in
    let checked = check_done s new d t n k x place e ok deaf.hears inside (h.fits n k inside low) h.told h.set_up h.long refl there granted done in
    let after = moved s new first P (λ xs. xs) place o e ops deaf h done refl
    (done.model ∙ model_stays m o place done.sampled e.trace tt)
    (done.goes ∙ ap (option_map (λ (y : State). state_after_all y e.trace)) h.told)
    load.answers load.ready.beats (ap (λ (x : State). x.locations) load.state) h.fits in
    (right_check m first P s n k place e (is_deaf t (Loc n k)) refl inside low h filled checked, after.1)

-- ---- an operation of a plan, from any scene with this model

abbrev Acts : ModelData → State → (List ℕ → Type 0) → (List ℕ → Type 0) → Op → Type 0
Acts m first P Q o =
    (s new : Scene) (e : Event) → Walking m first P s → Performs s new o e → IsRight m.chip first e × Walking m first Q new

writes : (m : ModelData) (first : State) (P : List ℕ → Type 0) (n k v place : ℕ) (map : Option ℕ) → IsModel m → IsDeafSetup m.chip m.layout first.setup
    → n < length m.chip.mems → ((x : ModelData) → x.chip ≡ m.chip → x.layout ≡ m.layout → grant x (op.MemWrite n map k v) ≡ Ok place)
    → Acts m first P (Wrote m first.setup n k v P) (op.MemWrite n map k v)
writes m first P n k v place map ok deaf inside granted s new e h performs =
    let o = op.MemWrite n map k v in
    subst (λ (m : ModelData). IsModel m → IsDeafSetup m.chip m.layout first.setup → n < length m.chip.mems
    → ((x : ModelData) → x.chip ≡ m.chip → x.layout ≡ m.layout → grant x o ≡ Ok place) → Walking m first P s
    → IsRight m.chip first e × Walking m first (Wrote m first.setup n k v P) new) h.model
    (λ ok deaf inside granted h.
    let to = granted s.model refl refl in
    write_done s new first P n k v place map e ok deaf inside h to (done_of s new o place e to performs)) ok deaf inside granted h

checks : (m : ModelData) (first : State) (P : List ℕ → Type 0) (n k place : ℕ) (o : Op) → IsModel m → IsDeafSetup m.chip m.layout first.setup
    → n < length m.chip.mems → IsWalkCheck m n place k o → ((xs : List ℕ) → P xs → IsFilled m.chip first.setup n k xs)
    → Acts m first P (Kept m first.setup P) o
checks m first P n k place o ok deaf inside one filled s new e h performs =
    subst (λ (m : ModelData). IsModel m → IsDeafSetup m.chip m.layout first.setup → n < length m.chip.mems
    → IsWalkCheck m n place k o → ((xs : List ℕ) → P xs → IsFilled m.chip first.setup n k xs) → Walking m first P s
    → IsRight m.chip first e × Walking m first (Kept m first.setup P) new) h.model
    (λ ok deaf inside one filled h.
    let to = one.granted s.model refl refl in
    check_step s new first P n k place e ok deaf inside h (filled h.device.locations h.holds) one.there to
    (done_of s new (walk_check s.model n place k) place e to (subst (λ o. Performs s new o e) one.is performs))) ok deaf inside one filled h

-- ---- plans

-- each event is right, and the locations are then so
record IsCourse (m : ModelData) (first : State) (Q : List ℕ → Type 0) (told : List Told) (new : Scene) : Type 0 where
  right : All (λ (u : Told). IsRight m.chip first u.event) told
  on : Walking m first Q new

abbrev Leads : ModelData → State → (P Q : List ℕ → Type 0) → Plan → Type 0
Leads m first P Q p = (s new : Scene) (told : List Told) → Walking m first P s → Runs p s told new → IsCourse m first Q told new

stops : (m : ModelData) (first : State) (P Q : List ℕ → Type 0) → ((xs : List ℕ) → P xs → Q xs) → Leads m first P Q stop
stops m first P Q f s new [] h run =
    record { right = All-nil (λ (u : Told). IsRight m.chip first u.event); on = subst (Walking m first Q) (sym run) (weaken m first P Q s f h) }
stops m first P Q f s new (u ∷ told) h run = absurd run

steps : (m : ModelData) (first : State) (P M Q R : List ℕ → Type 0) (o : Op) (p : Plan) → Acts m first P M o → ((xs : List ℕ) → M xs → Q xs)
    → Leads m first Q R p → Leads m first P R (step o p)
steps m first P M Q R o p act f rest s new [] h run = absurd run
steps m first P M Q R o p act f rest s new (u ∷ told) h (mid, done, run) =
    let one = act s mid u.event h done.performs in
    let more = rest mid new told (weaken m first M Q mid f one.1) run in
    record { right = All-cons (λ (u : Told). IsRight m.chip first u.event) u told one.0 more.right; on = more.on }

apart_at : (p q : Plan) (s new : Scene) (told : List Told) → Runs (followed_by p q) s told new
    → (mid : Scene) × (one : List Told) × (two : List Told) × (told ≡ one ++ two) × Runs p s one mid × Runs q mid two new
apart_at stop q s new told run = (s, [], told, refl, refl, run)
apart_at (step o p) q s new [] run = absurd run
apart_at (step o p) q s new (u ∷ told) (mid, done, run) =
    let x = apart_at p q mid new told run in
    (x.0, u ∷ x.1, x.2, ap (λ (rest : List Told). u ∷ rest) x.3, (mid, done, x.4), x.5)
apart_at (look f) q s new told run = apart_at (f s.model) q s new told run

goes_on : (m : ModelData) (first : State) (P Q R : List ℕ → Type 0) (p q : Plan) → Leads m first P Q p → Leads m first Q R q
    → Leads m first P R (followed_by p q)
goes_on m first P Q R p q one two s new told h run =
    let x = apart_at p q s new told run in
    let before = one s x.0 x.1 h x.4 in
    let after = two x.0 new x.2 before.on x.5 in
    let Right : Told → Type 0 = λ (u : Told). IsRight m.chip first u.event in
    record { right = subst (All Right) (sym x.3) (All-append Right x.1 x.2 before.right after.right); on = after.on }

only : (m : ModelData) (first : State) (P : List ℕ → Type 0) (b : Bool) (p : Plan) → (b ≡ true → Leads m first P P p) → Leads m first P P (only_if b p)
only m first P true p h = h refl
only m first P false p h = stops m first P P (λ xs x. x)

each : (m : ModelData) (first : State) (So : ℕ → List ℕ → Type 0) (n : ℕ) (f : ℕ → Plan) → ((k : ℕ) → k < n → Leads m first (So k) (So (suc k)) (f k))
    → Leads m first (So 0) (So n) (each_below n f)
each m first So zero f h = stops m first (So 0) (So 0) (λ xs x. x)
each m first So (suc n) f h =
    goes_on m first (So 0) (So n) (So (suc n)) (each_below n f) (f n) (each m first So n f (λ k low. h k (omega (arith, low)))) (h n (omega arith))

relax : (m : ModelData) (first : State) (P Q R : List ℕ → Type 0) (p : Plan) → ((xs : List ℕ) → Q xs → R xs) → Leads m first P Q p → Leads m first P R p
relax m first P Q R p f h s new told w run =
    let x = h s new told w run in
    record { right = x.right; on = weaken m first Q R new f x.on }

-- ---- a memory that the walk visits

record IsWalked (m : ModelData) (first : State) (mem place : ℕ) : Type 0 where
  ok : IsModel m
  setup : IsDeafSetup m.chip m.layout first.setup
  inside : mem < length m.chip.mems
  at : IsPlaceOf m.chip m.layout place (Mem mem)
  there : place_of m.layout (Mem mem) (Some (map_at m.layout place)) ≡ Some place
  reads : may_read m.layout place ≡ true
  writing : may_write m.layout place ≡ true
  writable : is_writable m.chip mem ≡ true

-- the location before the k-th is filled
abbrev IsBefore : ChipData → Setup → (mem k : ℕ) → List ℕ → Type 0
IsBefore c t mem zero xs = Unit {0}
IsBefore c t mem (suc k) xs = IsFilled c t mem k xs

abbrev AreFilled : ChipData → Setup → (mem k : ℕ) → List ℕ → Type 0
AreFilled c t mem k xs = IsFilled c t mem k xs × IsBefore c t mem k xs

check_of : (m : ModelData) (first : State) (mem place k : ℕ) → IsWalked m first mem place → k < memory_size m.chip mem
    → IsWalkCheck m mem place k (walk_check m mem place k)
check_of m first mem place k w low =
    record { is = refl; there = w.there; granted = mem_check_granted m.chip m.layout mem place k k w.at w.reads low }

-- a check leaves a filled location filled
still_filled : (m : ModelData) (t : Setup) (mem k : ℕ) (P : List ℕ → Type 0) (zs : List ℕ) → mem < length m.chip.mems → k < memory_size m.chip mem
    → ((xs : List ℕ) → P xs → IsFilled m.chip t mem k xs) → Kept m t P zs → IsFilled m.chip t mem k zs
still_filled m t mem k P zs inside low filled h = λ hears. h.same.same mem k inside low hears ∙ filled h.old h.was hears

-- a write of another location does too
other_filled : (m : ModelData) (t : Setup) (mem j k v : ℕ) (P : List ℕ → Type 0) (zs : List ℕ) → mem < length m.chip.mems → k < memory_size m.chip mem
    → (k ≡ j → ⊥) → ((xs : List ℕ) → P xs → IsFilled m.chip t mem k xs) → Wrote m t mem j v P zs → IsFilled m.chip t mem k zs
other_filled m t mem j k v P zs inside low other filled h =
    λ hears. h.same.same mem k inside low hears
    ∙ get_or-set_other h.old (location t mem j) (location t mem k) v 0 (λ meets. other (omega (arith, meets)))
    ∙ filled h.old h.was hears

-- and that location then holds what was written
now_filled : (m : ModelData) (t : Setup) (mem k : ℕ) (P : List ℕ → Type 0) (zs : List ℕ) → hearing t ≡ setup_of m.chip m.layout no_flaws
    → mem < length m.chip.mems → k < memory_size m.chip mem
    → Wrote m t mem k (turned_round m.chip (Mem mem) k) P zs → IsFilled m.chip t mem k zs
now_filled m t mem k P zs plain inside low h =
    let c = m.chip in
    let l = m.layout in
    let at : location t mem k ≡ location (setup_of c l no_flaws) mem k = ap (λ (u : Setup). location u mem k) plain in
    let room : location t mem k < length h.old = subst (λ a. a < length h.old) (sym at)
    (subst (λ z. location (setup_of c l no_flaws) mem k < z) (sym h.long) (location_within c l mem k inside low)) in
    λ hears. h.same.same mem k inside low hears ∙ get_or-set_same h.old (location t mem k) (turned_round c (Mem mem) k) 0 room

before_stays : (m : ModelData) (t : Setup) (mem k v : ℕ) (zs : List ℕ) → mem < length m.chip.mems → k < memory_size m.chip mem
    → Wrote m t mem k v (IsBefore m.chip t mem k) zs → IsBefore m.chip t mem k zs
before_stays m t mem zero v zs inside low h = tt
before_stays m t mem (suc j) v zs inside low h =
    other_filled m t mem (suc j) j v (IsFilled m.chip t mem j) zs inside (omega (arith, low)) (λ same. absurd (omega (arith, same))) (λ xs x. x) h

last : (m : ModelData) (first : State) (mem place k : ℕ) → IsWalked m first mem place → k < memory_size m.chip mem
    → Leads m first (IsFilled m.chip first.setup mem k) (IsFilled m.chip first.setup mem k) (check_last m.chip mem (map_at m.layout place) k)
last m first mem place k w low =
    let t = first.setup in
    let F = IsFilled m.chip t mem k in
    only m first F (k + 1 == memory_size m.chip mem) (check_filled m.chip mem (map_at m.layout place) k)
    (λ so. steps m first F (Kept m t F) F F (walk_check m mem place k) stop
    (checks m first F mem k place (walk_check m mem place k) w.ok w.setup w.inside (check_of m first mem place k w low) (λ xs x. x))
    (λ zs h. still_filled m t mem k F zs w.inside low (λ xs x. x) h) (stops m first F F (λ xs x. x)))

settles : (m : ModelData) (first : State) (mem place k : ℕ) → IsWalked m first mem place → k < memory_size m.chip mem
    → Leads m first (AreFilled m.chip first.setup mem k) (IsFilled m.chip first.setup mem k) (settle_before m.chip mem (map_at m.layout place) k)
settles m first mem place zero w low =
    stops m first (AreFilled m.chip first.setup mem 0) (IsFilled m.chip first.setup mem 0) (λ xs x. x.0)
settles m first mem place (suc j) w low =
    let c = m.chip in
    let t = first.setup in
    let map = map_at m.layout place in
    let v = low_bits c (Mem mem) j in
    let A = AreFilled c t mem (suc j) in
    let F = IsFilled c t mem (suc j) in
    let under : j < memory_size c mem = omega (arith, low) in
    steps m first A (Kept m t A) F F (walk_check m mem place j) (write_number c mem map j)
    (checks m first A mem j place (walk_check m mem place j) w.ok w.setup w.inside (check_of m first mem place j w under) (λ xs x. x.1))
    (λ zs h. still_filled m t mem (suc j) A zs w.inside low (λ xs x. x.0) h)
    (steps m first F (Wrote m t mem j v F) F F (op.MemWrite mem (Some map) j v) stop
    (writes m first F mem j v place (Some map) w.ok w.setup w.inside (mem_number_granted c m.layout mem place j w.at w.writing w.writable under))
    (λ zs h. other_filled m t mem j (suc j) v F zs w.inside low (λ same. absurd (omega (arith, same))) (λ xs x. x) h)
    (stops m first F F (λ xs x. x)))

walked : (m : ModelData) (first : State) (mem place k : ℕ) → IsWalked m first mem place → k < memory_size m.chip mem
    → Leads m first (IsBefore m.chip first.setup mem k) (IsBefore m.chip first.setup mem (suc k)) (walk_location m.chip mem (map_at m.layout place) k)
walked m first mem place k w low =
    let c = m.chip in
    let t = first.setup in
    let map = map_at m.layout place in
    let v = turned_round c (Mem mem) k in
    let B = IsBefore c t mem k in
    let A = AreFilled c t mem k in
    let F = IsFilled c t mem k in
    steps m first B (Wrote m t mem k v B) A F (op.MemWrite mem (Some map) k v) (followed_by (settle_before c mem map k) (check_last c mem map k))
    (writes m first B mem k v place (Some map) w.ok w.setup w.inside (mem_write_is c m.layout mem place k k w.at w.writing w.writable low).granted)
    (λ zs h. (now_filled m t mem k B zs w.setup.hears w.inside low h, before_stays m t mem k v zs w.inside low h))
    (goes_on m first A F F (settle_before c mem map k) (check_last c mem map k) (settles m first mem place k w low) (last m first mem place k w low))

-- ---- the sequence

abbrev Anything : List ℕ → Type 0
Anything xs = Unit {0}

at_memory : (m : ModelData) (first : State) (block : Option ℕ) (mem place : ℕ) → IsModel m → IsDeafSetup m.chip m.layout first.setup → mem < length m.chip.mems
    → place < length m.layout.places → is_chosen MemWalk m.chip m.layout block mem ≡ true → is_visited MemWalk m.layout mem place ≡ true
    → Leads m first Anything Anything (at_place MemWalk m.chip m.layout mem place)
at_memory m first block mem place ok deaf inside there chosen visited =
    let c = m.chip in
    let l = m.layout in
    let both = and_parts (is_of l place (Mem mem)) (may_read l place && may_write l place) visited in
    let rights = and_parts (may_read l place) (may_write l place) both.1 in
    let at = is_place c l place (Mem mem) ok.layout ok.built there both.0 in
    let w : IsWalked m first mem place = record {
      ok = ok;
      setup = deaf;
      inside = inside;
      at = at;
      there = found l (Mem mem) place ok.layout there at.mine;
      reads = rights.0;
      writing = rights.1;
      writable = (and_parts (is_tested c (Mem mem) block (exclusion_from MemWalk)) (is_writable c mem) chosen).1;
    } in
    let So = IsBefore c first.setup mem in
    relax m first Anything (So (memory_size c mem)) Anything (at_place MemWalk c l mem place) (λ xs x. tt)
    (each m first So (memory_size c mem) (walk_location c mem (map_at l place)) (λ k low. walked m first mem place k w low))

all_right : (m : ModelData) (first : State) (block : Option ℕ) → IsModel m → IsDeafSetup m.chip m.layout first.setup
    → Leads m first Anything Anything (walk MemWalk m.chip m.layout block)
all_right m first block ok deaf =
    let c = m.chip in
    let l = m.layout in
    each m first (λ k. Anything) (length c.mems) (visit_all MemWalk c l block)
    (λ mem inside. only m first Anything (is_chosen MemWalk c l block mem) (each_below (length l.places) (visit MemWalk c l mem))
    (λ chosen. each m first (λ k. Anything) (length l.places) (visit MemWalk c l mem)
    (λ place there. only m first Anything (is_visited MemWalk l mem place) (at_place MemWalk c l mem place)
    (λ visited. at_memory m first block mem place ok deaf inside there chosen visited))))

pub only_deaf_is_marked : OnlyDeafIsMarked
only_deaf_is_marked s new d block told ok is has room run =
    let m = s.model in
    let deaf = subst (λ u. IsDeafSetup m.chip m.layout u) (sym has.setup) (deaf_setup m has.deaf ok) in
    (all_right m d block ok deaf s new told (record {
      model = refl;
      device = d;
      told = is;
      set_up = record { setup = refl; beats = has.beats; bits = has.bits; marks = has.marks };
      long = has.locations;
      fits = λ n i inside low. (room n i inside low).fits;
      deaf = λ n i inside low so. refl;
      holds = tt;
    }) run).right
