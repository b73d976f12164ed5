-- Each sequence has an access at what it visits, which finds an address that answers errors.
use Rattle.std.proofs.Common.{◌≡◌, ◌⊎◌, ℕ, ◌*◌, ◌==◌, ne_eqb, not, Bool, true, false, ◌&&◌, List, length, Option, Some, refl, sym, ap, subst, inl, inr}
use Rattle.std.proofs.lemmas.Bool.{and_parts, cases_eq}
use Rattle.rl_bus.specs.State.{State}
use Rattle.rl_model.specs.Rows.{ChipData}
use Rattle.rl_model.specs.Fields.{size_of}
use Rattle.rl_model.specs.declared.rows.Item.TheVariants.{Reg, Mem}
use Rattle.rl_map.specs.Layout.{LayoutData, IsLocation}
use Rattle.rl_map.specs.Maps.{IsBuiltWith}
use Rattle.rl_mirror.specs.Mirror.{mirrored_of}
use Rattle.rl_access.specs.declared.event.Op.{Op}
use Rattle.rl_access.specs.declared.event.Op.TheVariants as op
use Rattle.rl_access.specs.Call.{Scene}
use Rattle.rl_access.specs.HandsOver.{Told}
use Rattle.rl_access.specs.Model.{IsModel}
use Rattle.rl_access.specs.Rules.{memory_size, is_writable}
use Rattle.rl_seq.specs.declared.sequence.Sequence.{Sequence}
use Rattle.rl_seq.specs.declared.sequence.Sequence.TheVariants.{HwReset, BitBash, Access, Shared, MemWalk}
use Rattle.rl_seq.specs.Choice.{is_of, may_read, may_write, is_bit_compared, is_tested, turned_round, exclusion_from}
use Rattle.rl_seq.specs.Plan.{Plan, followed_by, each_below}
use Rattle.rl_seq.specs.Sequences.{map_at, check_at, bash_once, bash_bit, check_other, fill, settle_before, check_last, walk_location}
use Rattle.rl_seq.specs.Sequences.{items_of, item_of, is_chosen, has_rights, is_visited, at_place, visit, visit_all, walk, plan_of}
use Rattle.rl_detect_laws.specs.Errors.{HasError, FailsAtWord, SendsSome, VisitedErrorIsFound, SharedErrorIsFound}
use Rattle.rl_detect_laws.specs.Visited.{RunsAll, HasEvent, IsVisited}
use Rattle.rl_detect_laws.proofs.Failing.{IsAccessAt, access_fails}
use Rattle.rl_detect_laws.proofs.Holding.{HoldsOne, in_first, in_chosen, in_each, held_found}
use Rattle.rl_detect_laws.proofs.Reaching.{IsPlaceOf, is_place, check_is, write_is, mem_write_is, only_location, location_in}
use Rattle.rl_detect_laws.proofs.Standing.{Stands, still_stands}

-- ---- from a place to the sequence

in_walk : (IsOne : Op → Type 0) (which : Sequence) (c : ChipData) (l : LayoutData) (block : Option ℕ) (number place : ℕ)
    → IsVisited which c l block number place → HoldsOne IsOne (at_place which c l number place) → HoldsOne IsOne (walk which c l block)
in_walk IsOne which c l block number place v h =
    in_each IsOne (items_of which c) number (visit_all which c l block) v.number_in
    (in_chosen IsOne (is_chosen which c l block number) (each_below (length l.places) (visit which c l number)) v.chosen
    (in_each IsOne (length l.places) place (visit which c l number) v.place_in
    (in_chosen IsOne (is_visited which l number place) (at_place which c l number place) v.visited h)))

in_plan : (IsOne : Op → Type 0) (which : Sequence) (c : ChipData) (l : LayoutData) (block : Option ℕ) → HoldsOne IsOne (walk which c l block)
    → HoldsOne IsOne (plan_of which c l block)
in_plan IsOne HwReset c l block h = inr h
in_plan IsOne BitBash c l block h = h
in_plan IsOne Access c l block h = h
in_plan IsOne Shared c l block h = h
in_plan IsOne MemWalk c l block h = h

-- ---- what a sequence sends at a place that it visits

-- what is asked for it
record IsSeat (which : Sequence) (c : ChipData) (l : LayoutData) (block : Option ℕ) (number place index : ℕ) : Type 0 where
  place_is : IsPlaceOf c l place (item_of which number)
  rights : has_rights which l place ≡ true
  chosen : is_chosen which c l block number ≡ true
  built : IsBuiltWith l c
  location : IsLocation l place index

check_here : (c : ChipData) (l : LayoutData) (reg place index : ℕ) (p : Plan) → IsPlaceOf c l place (Reg reg) → IsLocation l place index
    → may_read l place ≡ true → ((IsOne : Op → Type 0) → HoldsOne IsOne (check_at l reg place) → HoldsOne IsOne p)
    → HoldsOne (IsAccessAt c l place index) p
check_here c l reg place index p at location right into =
    into (IsAccessAt c l place index)
    (inl (subst (λ n. IsAccessAt c l place n (op.Check reg (Some (map_at l place)))) (sym (only_location c l reg place index at location)) (check_is c l reg place at right)))

held_at : (which : Sequence) (c : ChipData) (l : LayoutData) (block : Option ℕ) (number place index : ℕ)
    → IsSeat which c l block number place index → SendsSome which c number
    → HoldsOne (IsAccessAt c l place index) (at_place which c l number place)
held_at HwReset c l block reg place index at some =
    check_here c l reg place index (at_place HwReset c l reg place) at.place_is at.location at.rights (λ IsOne h. h)
held_at BitBash c l block reg place index at (bit, low, compared) =
    let map = map_at l place in
    check_here c l reg place index (at_place BitBash c l reg place) at.place_is at.location (and_parts (may_read l place) (may_write l place) at.rights).0
    (λ IsOne h.
    in_each IsOne (8 * size_of c reg) bit (bash_bit c reg map) low
    (in_chosen IsOne (is_bit_compared c reg bit) (followed_by (bash_once reg map bit) (bash_once reg map bit)) compared
    (in_first IsOne (bash_once reg map bit) (bash_once reg map bit) (λ m. inr h))))
held_at Access c l block reg place index at some =
    check_here c l reg place index (at_place Access c l reg place) at.place_is at.location (and_parts (may_read l place) (may_write l place) at.rights).0
    (λ IsOne h. λ m. inr (inr (inr h)))
held_at Shared c l block reg place index at some =
    λ m.
    let value = turned_round c (Reg reg) (mirrored_of m.mirror reg) in
    inl (subst (λ n. IsAccessAt c l place n (op.Write reg (Some (map_at l place)) value)) (sym (only_location c l reg place index at.place_is at.location))
    (write_is c l reg place (mirrored_of m.mirror reg) at.place_is at.rights))
held_at MemWalk c l block mem place index at some =
    let map = map_at l place in
    let low = location_in c l mem place index at.place_is at.built at.location in
    let writable = (and_parts (is_tested c (Mem mem) block (exclusion_from MemWalk)) (is_writable c mem) at.chosen).1 in
    let right = (and_parts (may_read l place) (may_write l place) at.rights).1 in
    in_each (IsAccessAt c l place index) (memory_size c mem) index (walk_location c mem map) low
    (in_first (IsAccessAt c l place index) (fill c mem map index) (followed_by (settle_before c mem map index) (check_last c mem map index))
    (inl (mem_write_is c l mem place index index at.place_is right writable low)))

seat_of : (which : Sequence) (c : ChipData) (l : LayoutData) (block : Option ℕ) (s : Scene) (number place index : ℕ) → IsModel s.model
    → IsVisited which s.model.chip s.model.layout block number place → IsLocation s.model.layout place index
    → IsSeat which s.model.chip s.model.layout block number place index
seat_of which c l block s number place index ok v location =
    let both = and_parts (is_of s.model.layout place (item_of which number)) (has_rights which s.model.layout place) v.visited in
    record {
      place_is = is_place s.model.chip s.model.layout place (item_of which number) ok.layout ok.built v.place_in both.0;
      rights = both.1;
      chosen = v.chosen;
      built = ok.built;
      location = location;
    }

-- ---- the laws

errors_found : (s new : Scene) (d : State) (which : Sequence) (block : Option ℕ) (told : List Told) (place index : ℕ) → IsModel s.model → s.device ≡ Some d
    → (error : HasError s.model.layout d.setup place index) → HoldsOne (IsAccessAt s.model.chip s.model.layout place index) (plan_of which s.model.chip s.model.layout block)
    → RunsAll which block s told new → HasEvent (FailsAtWord s.model.layout place index error.stands.number) told
errors_found s new d which block told place index ok is error held run =
    let c = s.model.chip in
    let l = s.model.layout in
    held_found (IsAccessAt c l place index) (Stands c l d.setup) (FailsAtWord l place index error.stands.number) (still_stands c l d.setup)
    (access_fails c l d.setup place index ok.layout error) (plan_of which c l block) s new told held
    (record { chip = refl; layout = refl; device = d; told = is; setup = refl }) run

pub visited_error_is_found : VisitedErrorIsFound
visited_error_is_found s new d which block told number place index ok is v some error run =
    let c = s.model.chip in
    let l = s.model.layout in
    errors_found s new d which block told place index ok is error
    (in_plan (IsAccessAt c l place index) which c l block (in_walk (IsAccessAt c l place index) which c l block number place v
    (held_at which c l block number place index (seat_of which c l block s number place index ok v error.stands.location) some))) run

both_true : (a b : Bool) → a ≡ true → b ≡ true → (a && b) ≡ true
both_true true b so h = h
both_true false b so h = absurd (cc)

-- a place that may be read is checked once another one was written
other_held : (c : ChipData) (l : LayoutData) (reg written place index : ℕ) → IsPlaceOf c l place (Reg reg) → IsLocation l place index → may_read l place ≡ true
    → (place ≡ written → ⊥) → HoldsOne (IsAccessAt c l place index) (at_place Shared c l reg written)
other_held c l reg written place index p location right other =
    check_here c l reg place index (at_place Shared c l reg written) p location right
    (λ IsOne h. λ m. inr (in_each IsOne (length l.places) place (check_other l reg written) p.there
    (in_chosen IsOne (not (place == written) && (is_of l place (Reg reg) && may_read l place)) (check_at l reg place)
    (both_true (not (place == written)) _ (ap not (ne_eqb place written other)) (both_true (is_of l place (Reg reg)) _ p.mine right)) h)))

pub shared_error_is_found : SharedErrorIsFound
shared_error_is_found s new d block told reg written place index ok is v at error run = by at.right
  where
    here : may_write s.model.layout place ≡ true → HasEvent (FailsAtWord s.model.layout place index error.stands.number) told
    here right =
        visited_error_is_found s new d Shared block told reg place index ok is (record {
          number_in = v.number_in;
          chosen = v.chosen;
          place_in = at.place_in;
          visited = both_true (is_of s.model.layout place (Reg reg)) _ at.register right;
        }) tt error run

    read_there : may_read s.model.layout place ≡ true → (place ≡ written) ⊎ (place ≡ written → ⊥) → HasEvent (FailsAtWord s.model.layout place index error.stands.number) told
    read_there right (inl same) =
        let writes : may_write s.model.layout written ≡ true =
        (and_parts (is_of s.model.layout written (Reg reg)) (may_write s.model.layout written) v.visited).1 in
        here (subst (λ p. may_write s.model.layout p ≡ true) (sym same) writes)
    read_there right (inr other) =
        let c = s.model.chip in
        let l = s.model.layout in
        let p = is_place c l place (Reg reg) ok.layout ok.built at.place_in at.register in
        errors_found s new d Shared block told place index ok is error
        (in_plan (IsAccessAt c l place index) Shared c l block (in_walk (IsAccessAt c l place index) Shared c l block reg written v
        (other_held c l reg written place index p error.stands.location right other))) run

    by : (may_read s.model.layout place ≡ true) ⊎ (may_write s.model.layout place ≡ true) → HasEvent (FailsAtWord s.model.layout place index error.stands.number) told
    by (inl right) = read_there right (cases_eq place written)
    by (inr right) = here right
