-- From the access that was carried out to what the operation performs.
use Rattle.std.proofs.Common.{◌≡◌, ◌⊎◌, ℕ, Bool, true, false, List, Option, None, Some, Ok, Err, MatchResult, if◌then◌else◌, refl, sym, ap, ◌∙◌, subst, inl, inr}
use Rattle.rl_bus.specs.Account.{Account}
use Rattle.rl_bus.specs.Standing.{Standing}
use Rattle.rl_bus.specs.State.{State}
use Rattle.rl_mirror.specs.Prediction.{needs_update, update_word_of}
use Rattle.rl_mirror.specs.Reachable.{UpdateBrings}
use Rattle.rl_model.specs.declared.rows.Item.{Item}
use Rattle.rl_model.specs.declared.rows.Item.TheVariants as item
use Rattle.rl_access.specs.declared.access.Access.{Access}
use Rattle.rl_access.specs.declared.event.End.{End}
use Rattle.rl_access.specs.declared.event.End.TheVariants as end
use Rattle.rl_access.specs.declared.event.Event.{Event}
use Rattle.rl_access.specs.declared.event.Op.{Op}
use Rattle.rl_access.specs.declared.event.Op.TheVariants as op
use Rattle.rl_access.specs.declared.event.Refused.{Refused}
use Rattle.rl_access.specs.declared.event.Refused.TheVariants.{NotWritable, OutOfRange, TooWide}
use Rattle.rl_access.specs.declared.trace.TraceItem.{TraceItem}
use Rattle.rl_access.specs.Access.{IsPlaceFor}
use Rattle.rl_access.specs.Asked.{IsBegun}
use Rattle.rl_access.specs.Call.{Scene, scene, Does, IsAccessed, IsDone, IsRefused, Performs}
use Rattle.rl_access.specs.Event.{EventFits}
use Rattle.rl_access.specs.Items.{failed_at}
use Rattle.rl_access.specs.Model.{ModelData, IsModel, IsReady, IsSameChip}
use Rattle.rl_access.specs.Operation.{is_on_memory, reg_of}
use Rattle.rl_access.specs.Rules.{Grant, Outcome, at_location, field_written, fitting, forgetting, forgetting_field, grant, or_error, outcome, quiet, way, whole, write_outcome}
use Rattle.rl_access.specs.Wishes.{BringsWishes}
use Rattle.rl_access.proofs.Granted.{only_ok, watched_way_found, way_found}
use Rattle.rl_access.proofs.MemoryPerforms.{IsLocationRead}
use Rattle.rl_access.proofs.OverBus.{field_write_done, other_whole_read, other_whole_write, whole_mirroring, whole_read, whole_update, whole_write}
use Rattle.rl_access.proofs.Performed.{IsAccessOf, IsReadOf, IsWriteOf, access_does, accessed_so}
use Rattle.rl_access.proofs.Wished.{brings_wishes, nothing_brought}

-- an access that was begun from an equal model, and is equal to that of the operation
pub carried : {before now : List Standing} {account later : Account} {state after : Option State} (o : ModelData → Access → List TraceItem → Outcome) (write : Bool)
    (m first entry new : ModelData) (asked : Op) (place : ℕ) (it a : Access) (old event : Event) →
    IsBegun m asked place old → IsAccessOf m asked place first it write (o first it) → first.chip ≡ m.chip → entry ≡ first → a ≡ it →
    IsAccessed (scene entry before account state) (scene new now later after) old.op a write (o entry a) event →
    IsReady new now after → IsSameChip entry new → EventFits new event →
    Does (scene m before account state) (scene new now later after) asked event
carried o write m first entry new asked place it a old event begun is chip from same done ready parts fits =
    access_does m first new asked old.op place it write (o first it) event begun.granted begun.named is
    (accessed_so o entry first new old.op a it write event from same done) ready (record {
      chip = parts.chip ∙ ap (λ (x : ModelData). x.chip) from ∙ chip;
      layout = parts.layout ∙ ap (λ (x : ModelData). x.layout) from ∙ is.layout_is;
    }) fits

-- the same by another name of the operation
pub begun_as : {m : ModelData} {o asked : Op} {place : ℕ} {event : Event} → o ≡ asked → IsBegun m o place event → IsBegun m asked place event
begun_as {m} {o} {asked} {place} {event} is begun = subst (λ x. IsBegun m x place event) is begun

pub does_so : (o asked : Op) (s new : Scene) (event : Event) → o ≡ asked → Does s new asked event → Does s new o event
does_so o asked s new event is does = subst (λ x. Does s new x event) (sym is) does

-- ---- a whole register

-- a read that compares nothing
abbrev pub IsPlainRead : Op → ℕ → Type 0
IsPlainRead o reg = ((map : Option ℕ) × (o ≡ op.Read reg map)) ⊎ (((map : Option ℕ) × (o ≡ op.Mirror reg map)) ⊎ ((map : Option ℕ) × (o ≡ op.OtherRead reg map)))

pub plain_read : (m : ModelData) (o : Op) (reg place : ℕ) → IsPlainRead o reg → IsReadOf m o place (forgetting m place) (whole m reg place 0) false
plain_read m o reg place (inl is) = subst (λ x. IsReadOf m x place (forgetting m place) (whole m reg place 0) false) (sym is.1) (whole_read m reg is.0 place)
plain_read m o reg place (inr (inl is)) = subst (λ x. IsReadOf m x place (forgetting m place) (whole m reg place 0) false) (sym is.1) (whole_mirroring m reg is.0 place false)
plain_read m o reg place (inr (inr is)) = subst (λ x. IsReadOf m x place (forgetting m place) (whole m reg place 0) false) (sym is.1) (other_whole_read m reg is.0 place)

pub check_read : (m : ModelData) (o : Op) (reg : ℕ) (map : Option ℕ) (place : ℕ) → o ≡ op.Check reg map → IsReadOf m o place (forgetting m place) (whole m reg place 0) true
check_read m o reg map place is = subst (λ x. IsReadOf m x place (forgetting m place) (whole m reg place 0) true) (sym is) (whole_mirroring m reg map place true)

-- and a write of a value
abbrev pub IsPlainWrite : Op → (reg value : ℕ) → Type 0
IsPlainWrite o reg value = ((map : Option ℕ) × (o ≡ op.Write reg map value)) ⊎ ((map : Option ℕ) × (o ≡ op.OtherWrite reg map value))

pub plain_write : (m : ModelData) (o : Op) (reg value place : ℕ) → IsPlainWrite o reg value → IsWriteOf m o place (forgetting m place) (whole m reg place value) end.Done
plain_write m o reg value place (inl is) = subst (λ x. IsWriteOf m x place (forgetting m place) (whole m reg place value) end.Done) (sym is.1) (whole_write m reg is.0 value place)
plain_write m o reg value place (inr is) = subst (λ x. IsWriteOf m x place (forgetting m place) (whole m reg place value) end.Done) (sym is.1) (other_whole_write m reg is.0 value place)

-- an update that has something to send
pub update_write_of : (m : ModelData) (o : Op) (reg : ℕ) (map : Option ℕ) (place word : ℕ) → needs_update m.mirror reg ≡ true → word ≡ update_word_of m.chip reg m.mirror →
    o ≡ op.Update reg map → IsWriteOf m o place (forgetting m place) (whole m reg place word) (end.Sent word)
update_write_of m o reg map place word needed word_is is =
    subst (λ x. IsWriteOf m x place (forgetting m place) (whole m reg place word) (end.Sent word)) (sym is) (whole_update m reg map place word needed word_is)

-- ---- one field

pub field_write_of : (m : ModelData) (o : Op) (field : ℕ) (map : Option ℕ) (value place : ℕ) → o ≡ op.FieldWrite field map value →
    IsWriteOf m o place (forgetting_field m field place true) (field_written m field place value) end.Done
field_write_of m o field map value place is =
    subst (λ x. IsWriteOf m x place (forgetting_field m field place true) (field_written m field place value) end.Done) (sym is) (field_write_done m field map value place)

-- ---- the place of what was granted

pub way_place : (m : ModelData) (i : Item) (map : Option ℕ) (write : Bool) (place : ℕ) → way m i map write ≡ Ok place → IsPlaceFor m i place
way_place m i map write place granted = let found = way_found m i map write place granted in found.there

fitting_before : (m : ModelData) (i : Item) (value place : ℕ) (g : Grant) → fitting m i value g ≡ Ok place → g ≡ Ok place
fitting_before m i value place g granted = let both = only_ok g _ TooWide place granted in both.0

pub plain_read_place : (m : ModelData) (o : Op) (reg place : ℕ) → IsPlainRead o reg → grant m o ≡ Ok place → IsPlaceFor m (item.Reg reg) place
plain_read_place m o reg place (inl is) granted = way_place m (item.Reg reg) is.0 false place (sym (ap (grant m) is.1) ∙ granted)
plain_read_place m o reg place (inr (inl is)) granted = way_place m (item.Reg reg) is.0 false place (sym (ap (grant m) is.1) ∙ granted)
plain_read_place m o reg place (inr (inr is)) granted =
    let found = watched_way_found m reg is.0 false place (sym (ap (grant m) is.1) ∙ granted) in
    found.way.there

pub plain_write_place : (m : ModelData) (o : Op) (reg value place : ℕ) → IsPlainWrite o reg value → grant m o ≡ Ok place → IsPlaceFor m (item.Reg reg) place
plain_write_place m o reg value place (inl is) granted =
    way_place m (item.Reg reg) is.0 true place (fitting_before m (item.Reg reg) value place _ (sym (ap (grant m) is.1) ∙ granted))
plain_write_place m o reg value place (inr is) granted =
    let found = watched_way_found m reg is.0 true place (fitting_before m (item.Reg reg) value place _ (sym (ap (grant m) is.1) ∙ granted)) in
    found.way.there

pub field_write_place : (m : ModelData) (field value place : ℕ) (map : Option ℕ) → grant m (op.FieldWrite field map value) ≡ Ok place → IsPlaceFor m (item.Reg (reg_of m.chip field)) place
field_write_place m field value place map granted =
    let both = only_ok (way m (item.Reg (reg_of m.chip field)) map true) _ TooWide place granted in
    way_place m (item.Reg (reg_of m.chip field)) map true place both.0

inside_before : (m : ModelData) (mem index place : ℕ) (g : Grant) → at_location m mem index g ≡ Ok place → g ≡ Ok place
inside_before m mem index place g granted = let both = only_ok g _ OutOfRange place granted in both.0

read_location_place : (m : ModelData) (mem index place : ℕ) (map : Option ℕ) → at_location m mem index (way m (item.Mem mem) map false) ≡ Ok place → IsPlaceFor m (item.Mem mem) place
read_location_place m mem index place map granted = way_place m (item.Mem mem) map false place (inside_before m mem index place _ granted)

check_location_place : (m : ModelData) (mem index value place : ℕ) (map : Option ℕ) → grant m (op.MemCheck mem map index value) ≡ Ok place → IsPlaceFor m (item.Mem mem) place
check_location_place m mem index value place map granted = read_location_place m mem index place map (fitting_before m (item.Mem mem) value place _ granted)

pub location_read_place : (m : ModelData) (o : Op) (mem index place : ℕ) → IsLocationRead o mem index → grant m o ≡ Ok place → IsPlaceFor m (item.Mem mem) place
location_read_place m o mem index place (inl is) granted = read_location_place m mem index place is.0 (sym (ap (grant m) is.1) ∙ granted)
location_read_place m o mem index place (inr is) granted = check_location_place m mem index is.1 place is.0 (sym (ap (grant m) is.2) ∙ granted)

pub write_location_place : (m : ModelData) (mem index value place : ℕ) (map : Option ℕ) → grant m (op.MemWrite mem map index value) ≡ Ok place → IsPlaceFor m (item.Mem mem) place
write_location_place m mem index value place map granted =
    let inside = inside_before m mem index place _ (fitting_before m (item.Mem mem) value place _ granted) in
    let both = only_ok (way m (item.Mem mem) map true) _ NotWritable place inside in
    way_place m (item.Mem mem) map true place both.0

-- ---- what an operation leaves of the model

-- one that makes nothing of its items
abbrev pub LeavesModel : ModelData → Op → Type 0
LeavesModel m o = (place sampled : ℕ) (items : List TraceItem) → (outcome m o place sampled items).model ≡ m

left_so : (s new : Scene) (o : Op) (event : Event) (g : Grant) → LeavesModel s.model o → MatchResult g (λ place. IsDone s new o place event) (λ why. IsRefused s new o why event) →
    new.model ≡ s.model
left_so s new o event (Ok place) leaves done = done.model ∙ leaves place done.sampled event.trace
left_so s new o event (Err why) leaves refused = ap (λ (x : Scene). x.model) refused.unchanged

pub model_stays : (s new : Scene) (o : Op) (event : Event) → LeavesModel s.model o → Performs s new o event → new.model ≡ s.model
model_stays s new o event leaves does = left_so s new o event (grant s.model o) leaves does

or_left : (failed : Option ℕ) (m : ModelData) (good : Outcome) → good.model ≡ m → (or_error failed m good).model ≡ m
or_left None m good same = same
or_left (Some k) m good same = refl

-- each operation on a location of a memory
pub location_leaves : (m : ModelData) (o : Op) → is_on_memory o ≡ true → LeavesModel m o
location_leaves m (op.MemWrite mem map index value) on place sampled items = or_left (failed_at items) m _ refl
location_leaves m (op.MemRead mem map index) on place sampled items = or_left (failed_at items) m _ refl
location_leaves m (op.MemCheck mem map index value) on place sampled items = or_left (failed_at items) m _ refl
location_leaves m o on place sampled items = absurd (cc)

-- ---- what an update brings

update_ended : (m new : ModelData) (reg place : ℕ) (items : List TraceItem) (e : End) (needed : Bool) → IsModel m → UpdateBrings m.chip →
    let word = update_word_of m.chip reg m.mirror in
    let o : Outcome = if needed then write_outcome (forgetting m place) (end.Sent word) (whole m reg place word) items else quiet end.Nothing m in
    e ≡ o.end → new ≡ o.model → BringsWishes m new reg e
update_ended m new reg place items e true known law ends is = brings_wishes m new reg place (update_word_of m.chip reg m.mirror) items e known law refl ends is
update_ended m new reg place items e false known law ends is = nothing_brought m new reg e ends

refused_brings : (m new : ModelData) (reg : ℕ) (e : End) (why : Refused) → e ≡ end.Refused why → BringsWishes m new reg e
refused_brings m new reg e why ends word told = absurd (let apart : end.Refused why ≡ end.Sent word = sym ends ∙ told in cc)

update_so : (s new : Scene) (reg : ℕ) (map : Option ℕ) (event : Event) (g : Grant) → IsModel s.model → UpdateBrings s.model.chip →
    MatchResult g (λ place. IsDone s new (op.Update reg map) place event) (λ why. IsRefused s new (op.Update reg map) why event) → BringsWishes s.model new.model reg event.end
update_so s new reg map event (Ok place) known law done =
    update_ended s.model new.model reg place event.trace event.end (needs_update s.model.mirror reg) known law (ap (λ (e : Event). e.end) done.event_is) done.model
update_so s new reg map event (Err why) known law refused = refused_brings s.model new.model reg event.end why (ap (λ (e : Event). e.end) refused.event_is)

pub update_wishes : (s new : Scene) (reg : ℕ) (map : Option ℕ) (event : Event) → IsModel s.model → UpdateBrings s.model.chip → Performs s new (op.Update reg map) event →
    BringsWishes s.model new.model reg event.end
update_wishes s new reg map event known law does = update_so s new reg map event (grant s.model (op.Update reg map)) known law does
