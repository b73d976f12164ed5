-- What an operation that ended by a bus error leaves, and what a check names.
use Rattle.std.proofs.Common.{◌≡◌, ◌≢◌, ◌⊎◌, ⊎_elim, ℕ, ◌<◌, ◌≤◌, ◌==◌, ◌&&◌, not, Bool, true, false, if◌then◌else◌, List, [], Option, None, Some, Ok, Err, MatchResult, length}
use Rattle.std.proofs.Common.{refl, sym, ap, ◌∙◌, subst}
use Rattle.std.proofs.lemmas.Bool.{and_parts, and_from, not-true, eqb-false, ne_eqb, cases_lt, cases_Bool}
use Rattle.rl_policy.specs.Bits.{bit}
use Rattle.rl_policy.specs.Table.{is_write_only}
use Rattle.rl_policy.proofs.BitLemmas.{from_bits-lt, bit-from_bits, bit-above}
use Rattle.rl_model.specs.declared.rows.Field.{Field}
use Rattle.rl_model.specs.Rows.{FieldSeen, ChipData}
use Rattle.rl_model.specs.Fields.{field_of, fields_of, field_in}
use Rattle.rl_mirror.specs.Compared.{differs, differing, differ}
use Rattle.rl_mirror.specs.Fields.{part_of}
use Rattle.rl_mirror.specs.Mirror.{MirrorData, mirrored_of}
use Rattle.rl_mirror.specs.Prediction.{needs_update}
use Rattle.rl_access.specs.declared.access.Access.{Access}
use Rattle.rl_access.specs.declared.event.End.{End}
use Rattle.rl_access.specs.declared.event.End.TheVariants as end
use Rattle.rl_access.specs.declared.event.Event.{Event}
use Rattle.rl_access.specs.declared.event.Op.{Op}
use Rattle.rl_access.specs.declared.event.Op.TheVariants as op
use Rattle.rl_access.specs.declared.event.Refused.{Refused}
use Rattle.rl_access.specs.declared.trace.TraceItem.{TraceItem}
use Rattle.rl_access.specs.Call.{Scene, IsRefused, IsDone, Performs}
use Rattle.rl_access.specs.Items.{failed_at}
use Rattle.rl_access.specs.Laws.{KeepsBeliefs, IsFoundOther, ChecksRegister, NamesField, is_any_check, HasReadNothing}
use Rattle.rl_access.specs.Model.{ModelData}
use Rattle.rl_access.specs.Operation.{register_of}
use Rattle.rl_access.specs.Rules.{Grant, grant, named, Outcome, outcome, or_error, quiet, event_at, forgetting, forgetting_field, whole, field_written, field_read, write_outcome, read_outcome}
use Rattle.rl_access.specs.Rules.{end_in_field, back_value}

-- ---- an event tells its outcome

pub record TellsOutcome (e : Event) (o : Outcome) : Type 0 where
  pub end_is : e.end ≡ o.end
  pub differ_is : e.differ ≡ o.differ

pub event_tells : (r : Option ℕ) (op : Op) (items : List TraceItem) (o : Outcome) → TellsOutcome (event_at r op items o) o
event_tells None op items o = record { end_is = refl; differ_is = refl }
event_tells (Some reg) op items o = record { end_is = refl; differ_is = refl }

-- ---- a bus error

-- this is so of an outcome that may be a bus error
abbrev IsKept : ModelData → Outcome → Type 0
IsKept m o = (k : ℕ) → o.end ≡ end.BusError k → o.model.mirror ≡ m.mirror

kept_by : (failed : Option ℕ) (m entry : ModelData) (good : Outcome) → entry.mirror ≡ m.mirror
    → ((k : ℕ) → good.end ≡ end.BusError k → ⊥) → IsKept m (or_error failed entry good)
kept_by None m entry good same never k e = absurd (never k e)
kept_by (Some n) m entry good same never k e = same

kept_quiet : (m new : ModelData) (e : End) → ((k : ℕ) → e ≡ end.BusError k → ⊥) → IsKept m (quiet e new)
kept_quiet m new e never k is = absurd (never k is)

kept_write : (m entry : ModelData) (good : End) (a : Access) (items : List TraceItem) → entry.mirror ≡ m.mirror
    → ((k : ℕ) → good ≡ end.BusError k → ⊥) → IsKept m (write_outcome entry good a items)
kept_write m entry good a items same never = kept_by (failed_at items) m entry _ same never

kept_read : (m entry : ModelData) (check : Bool) (a : Access) (items : List TraceItem) → entry.mirror ≡ m.mirror
    → IsKept m (read_outcome entry check a items)
kept_read m entry check a items same = kept_by (failed_at items) m entry _ same (λ k e. cc)

kept_either : (b : Bool) (m : ModelData) (x y : Outcome) → IsKept m x → IsKept m y → IsKept m (if b then x else y)
kept_either true m x y one other = one
kept_either false m x y one other = other

error_in_field : (f : Field) (e : End) (k : ℕ) → end_in_field f e ≡ end.BusError k → e ≡ end.BusError k
error_in_field f end.Done k e = e
error_in_field f (end.Value value) k e = absurd (cc)
error_in_field f (end.Sent word) k e = e
error_in_field f end.Nothing k e = e
error_in_field f (end.BusError word) k e = e
error_in_field f (end.Refused why) k e = e

outcome_keeps : (m : ModelData) (op : Op) (place sampled : ℕ) (items : List TraceItem)
    → IsKept m (outcome m op place sampled items)
outcome_keeps m (op.Write reg map value) place sampled items =
    kept_write m (forgetting m place) end.Done (whole m reg place value) items refl (λ k e. cc)
outcome_keeps m (op.Read reg map) place sampled items = kept_read m (forgetting m place) false (whole m reg place 0) items refl
outcome_keeps m (op.Mirror reg map) place sampled items = kept_read m (forgetting m place) false (whole m reg place 0) items refl
outcome_keeps m (op.Check reg map) place sampled items = kept_read m (forgetting m place) true (whole m reg place 0) items refl
outcome_keeps m (op.FieldWrite field map value) place sampled items =
    kept_write m (forgetting_field m field place true) end.Done (field_written m field place value) items refl (λ k e. cc)
outcome_keeps m (op.FieldRead field map) place sampled items =
    λ k e. kept_read m (forgetting_field m field place false) false (field_read m field place) items refl k
    (error_in_field (field_of m.chip field).shape
    (read_outcome (forgetting_field m field place false) false (field_read m field place) items).end k e)
outcome_keeps m (op.Update reg map) place sampled items =
    kept_either (needs_update m.mirror reg) m _ (quiet end.Nothing m)
    (kept_write m (forgetting m place) (end.Sent _) (whole m reg place _) items refl (λ k e. cc))
    (kept_quiet m m end.Nothing (λ k e. cc))
outcome_keeps m (op.MemWrite mem map index value) place sampled items = kept_by (failed_at items) m m _ refl (λ k e. cc)
outcome_keeps m (op.MemRead mem map index) place sampled items = kept_by (failed_at items) m m _ refl (λ k e. cc)
outcome_keeps m (op.MemCheck mem map index value) place sampled items = kept_by (failed_at items) m m _ refl (λ k e. cc)
outcome_keeps m (op.OtherWrite reg map value) place sampled items =
    kept_write m (forgetting m place) end.Done (whole m reg place value) items refl (λ k e. cc)
outcome_keeps m (op.OtherRead reg map) place sampled items =
    kept_read m (forgetting m place) false (whole m reg place 0) items refl
outcome_keeps m _ place sampled items = λ k e. absurd (cc)

-- the event of what was done tells its outcome
pub done_tells : (s new : Scene) (op : Op) (place : ℕ) (event : Event) (d : IsDone s new op place event)
    → TellsOutcome event (outcome s.model op place d.sampled event.trace)
done_tells s new op place event d =
    let o = outcome s.model op place d.sampled event.trace in
    subst (λ e. TellsOutcome e o) (sym d.event_is)
    (event_tells (register_of s.model.chip (named s.model op)) (named s.model op) event.trace o)

kept : (m new : ModelData) → new.mirror ≡ m.mirror → KeepsBeliefs m new
kept m new same = record {
  mirrored = ap (λ (x : MirrorData). x.mirrored) same;
  desired = ap (λ (x : MirrorData). x.desired) same;
  marks = ap (λ (x : MirrorData). x.spent) same;
}

error_by : (s new : Scene) (op : Op) (event : Event) (k : ℕ) (g : Grant)
    → MatchResult g (λ place. IsDone s new op place event) (λ why. IsRefused s new op why event)
    → event.end ≡ end.BusError k → KeepsBeliefs s.model new.model
error_by s new op event k (Ok place) d e =
    kept s.model new.model (ap (λ (x : ModelData). x.mirror) d.model
    ∙ outcome_keeps s.model op place d.sampled event.trace k (sym (done_tells s new op place event d).end_is ∙ e))
error_by s new op event k (Err why) r e = kept s.model new.model (ap (λ (x : Scene). x.model.mirror) r.unchanged)

pub error_keeps : (s new : Scene) (op : Op) (event : Event) (k : ℕ) → Performs s new op event → event.end ≡ end.BusError k
    → KeepsBeliefs s.model new.model
error_keeps s new op event k p e = error_by s new op event k (grant s.model op) p e

-- ---- the fields that differ

tests_of : (f : Field) (read mirrored : ℕ) → differs f read mirrored ≡ true → IsFoundOther f read mirrored
tests_of f read mirrored e =
    let both = and_parts (f.compare && not (is_write_only f.policy)) (not (part_of f read == part_of f mirrored)) e in
    let two = and_parts f.compare (not (is_write_only f.policy)) both.0 in
    record {
      compared = record { readable = not-true (is_write_only f.policy) two.1; compare = two.0 };
      other = eqb-false (part_of f read) (part_of f mirrored) (not-true (part_of f read == part_of f mirrored) both.1);
    }

tests_from : (f : Field) (read mirrored : ℕ) → IsFoundOther f read mirrored → differs f read mirrored ≡ true
tests_from f read mirrored h =
    and_from (f.compare && not (is_write_only f.policy)) (not (part_of f read == part_of f mirrored))
    (and_from f.compare (not (is_write_only f.policy)) h.compared.compare (ap not h.compared.readable))
    (ap not (ne_eqb (part_of f read) (part_of f mirrored) h.other))

named_low : (fields : List FieldSeen) (read mirrored k : ℕ) → k < length fields
    → bit (differing fields read mirrored) k ≡ differs (field_in fields k).shape read mirrored
unfolding differing
named_low fields read mirrored k low =
    bit-from_bits (length fields) (λ i. differs (field_in fields i).shape read mirrored) k low

named_high : (fields : List FieldSeen) (read mirrored k : ℕ) → length fields ≤ k → bit (differing fields read mirrored) k ≡ false
unfolding differing
named_high fields read mirrored k high =
    bit-above (differing fields read mirrored) (length fields) k
    (from_bits-lt (length fields) (λ i. differs (field_in fields i).shape read mirrored)) high

abbrev pub IsNamed : List FieldSeen → (read mirrored k : ℕ) → Type 0
IsNamed fields read mirrored k = (k < length fields) × IsFoundOther (field_in fields k).shape read mirrored

named_is : (fields : List FieldSeen) (read mirrored k : ℕ) → bit (differing fields read mirrored) k ≡ true
    → IsNamed fields read mirrored k
named_is fields read mirrored k e =
    ⊎_elim (λ low. (low, tests_of (field_in fields k).shape read mirrored (sym (named_low fields read mirrored k low) ∙ e)))
    (λ high. absurd (let no : false ≡ true = sym (named_high fields read mirrored k high) ∙ e in cc)) (cases_lt k (length fields))

is_named : (fields : List FieldSeen) (read mirrored k : ℕ) → IsNamed fields read mirrored k
    → bit (differing fields read mirrored) k ≡ true
is_named fields read mirrored k h =
    named_low fields read mirrored k h.0 ∙ tests_from (field_in fields k).shape read mirrored h.1

differ_is : (c : ChipData) (reg read : ℕ) (m : MirrorData)
    → differ c reg read m ≡ differing (fields_of c reg) read (mirrored_of m reg)
unfolding differ
differ_is c reg read m = refl

-- where a value was read, what differs is made of it
value_read : (failed : Option ℕ) (m new : ModelData) (made : ℕ → ℕ) (v read : ℕ)
    → (or_error failed m (record { end = end.Value v; model = new; differ = made v })).end ≡ end.Value read
    → (or_error failed m (record { end = end.Value v; model = new; differ = made v })).differ ≡ made read
value_read None m new made v read e = let same : v ≡ read = cc in ap made same
value_read (Some k) m new made v read e = absurd (cc)

value_got : (v read : ℕ) → end.Value v ≡ end.Value read → v ≡ read
value_got v read e = cc

check_outcome : (m : ModelData) (op : Op) (reg place sampled read : ℕ) (items : List TraceItem) → ChecksRegister op reg
    → (outcome m op place sampled items).end ≡ end.Value read
    → (outcome m op place sampled items).differ ≡ differ m.chip reg read m.mirror
check_outcome m (op.Check checked map) reg place sampled read items same e =
    value_read (failed_at items) (forgetting m place) _ (λ v. differ m.chip checked v m.mirror) _ read e
    ∙ ap (λ r. differ m.chip r read m.mirror) same
check_outcome m (op.BackCheck checked) reg place sampled read items same e =
    ap (λ v. differ m.chip checked v m.mirror) (value_got (back_value m checked sampled) read e)
    ∙ ap (λ r. differ m.chip r read m.mirror) same
check_outcome m _ reg place sampled read items same e = absurd same

refused_tells : (s new : Scene) (op : Op) (why : Refused) (event : Event) → IsRefused s new op why event → TellsOutcome event (quiet (end.Refused why) s.model)
refused_tells s new op why event r =
    subst (λ e. TellsOutcome e (quiet (end.Refused why) s.model)) (sym r.event_is)
    (event_tells (register_of s.model.chip (named s.model op)) (named s.model op) [] (quiet (end.Refused why) s.model))

no_value : (e : End) (why : Refused) (read : ℕ) → e ≡ end.Refused why → e ≡ end.Value read → ⊥
no_value e why read refused value = absurd (let no : end.Refused why ≡ end.Value read = sym refused ∙ value in cc)

check_by : (s new : Scene) (op : Op) (event : Event) (reg read : ℕ) (g : Grant)
    → MatchResult g (λ place. IsDone s new op place event) (λ why. IsRefused s new op why event)
    → ChecksRegister op reg → event.end ≡ end.Value read → event.differ ≡ differ s.model.chip reg read s.model.mirror
check_by s new op event reg read (Ok place) d is e =
    (done_tells s new op place event d).differ_is
    ∙ check_outcome s.model op reg place d.sampled read event.trace is (sym (done_tells s new op place event d).end_is ∙ e)
check_by s new op event reg read (Err why) r is e = absurd (no_value event.end why read ((refused_tells s new op why event r).end_is) e)

pub check_names : (s new : Scene) (op : Op) (event : Event) (reg read k : ℕ) → Performs s new op event
    → ChecksRegister op reg → event.end ≡ end.Value read
    → (NamesField event k → IsNamed (fields_of s.model.chip reg) read (mirrored_of s.model.mirror reg) k)
    × (IsNamed (fields_of s.model.chip reg) read (mirrored_of s.model.mirror reg) k → NamesField event k)
check_names s new op event reg read k p is e =
    let same : event.differ ≡ differing (fields_of s.model.chip reg) read (mirrored_of s.model.mirror reg) =
    check_by s new op event reg read (grant s.model op) p is e ∙ differ_is s.model.chip reg read s.model.mirror in (
      λ h. named_is (fields_of s.model.chip reg) read (mirrored_of s.model.mirror reg) k (ap (λ n. bit n k) (sym same) ∙ h),
      λ h. ap (λ n. bit n k) same ∙ is_named (fields_of s.model.chip reg) read (mirrored_of s.model.mirror reg) k h,
    )

-- ---- a location

abbrev mark : Bool → ℕ
mark b = if b then 0 else 1

other_mark : (b : Bool) → mark b ≡ 1 → b ≡ false
other_mark true e = absurd (cc)
other_mark false e = refl

marked_other : (read value : ℕ) → mark (read == value) ≡ 1 → read ≢ value
marked_other read value e = eqb-false read value (other_mark (read == value) e)

other_marked : (read value : ℕ) → read ≢ value → mark (read == value) ≡ 1
other_marked read value other = ap mark (ne_eqb read value other)

location_by : (s new : Scene) (event : Event) (mem index value read : ℕ) (map : Option ℕ) (g : Grant)
    → MatchResult g (λ place. IsDone s new (op.MemCheck mem map index value) place event)
    (λ why. IsRefused s new (op.MemCheck mem map index value) why event)
    → event.end ≡ end.Value read → event.differ ≡ mark (read == value)
location_by s new event mem index value read map (Ok place) d e =
    (done_tells s new (op.MemCheck mem map index value) place event d).differ_is
    ∙ value_read (failed_at event.trace) s.model _ (λ v. mark (v == value)) _ read
    (sym (done_tells s new (op.MemCheck mem map index value) place event d).end_is ∙ e)
location_by s new event mem index value read map (Err why) r e =
    absurd (no_value event.end why read ((refused_tells s new (op.MemCheck mem map index value) why event r).end_is) e)

pub location_marks : (s new : Scene) (event : Event) (mem index value read : ℕ) (map : Option ℕ)
    → Performs s new (op.MemCheck mem map index value) event → event.end ≡ end.Value read
    → (event.differ ≡ 1 → read ≢ value) × (read ≢ value → event.differ ≡ 1)
location_marks s new event mem index value read map p e =
    let same : event.differ ≡ mark (read == value) =
    location_by s new event mem index value read map (grant s.model (op.MemCheck mem map index value)) p e in (
      λ h. marked_other read value (sym same ∙ h),
      λ h. same ∙ other_marked read value h,
    )

-- ---- and nothing else

none_by : (failed : Option ℕ) (m : ModelData) (good : Outcome) → good.differ ≡ 0 → (or_error failed m good).differ ≡ 0
none_by None m good none = none
none_by (Some k) m good none = refl

none_either : (b : Bool) (x y : Outcome) → x.differ ≡ 0 → y.differ ≡ 0 → (if b then x else y).differ ≡ 0
none_either true x y one other = one
none_either false x y one other = other

no_check_differs : (m : ModelData) (op : Op) (place sampled : ℕ) (items : List TraceItem) → is_any_check op ≡ false
    → (outcome m op place sampled items).differ ≡ 0
no_check_differs m (op.Check reg map) place sampled items e = absurd (cc)
no_check_differs m (op.BackCheck reg) place sampled items e = absurd (cc)
no_check_differs m (op.MemCheck mem map index value) place sampled items e = absurd (cc)
no_check_differs m (op.Write reg map value) place sampled items e = none_by (failed_at items) _ _ refl
no_check_differs m (op.Read reg map) place sampled items e = none_by (failed_at items) _ _ refl
no_check_differs m (op.Mirror reg map) place sampled items e = none_by (failed_at items) _ _ refl
no_check_differs m (op.FieldWrite field map value) place sampled items e = none_by (failed_at items) _ _ refl
no_check_differs m (op.FieldRead field map) place sampled items e = none_by (failed_at items) _ _ refl
no_check_differs m (op.Update reg map) place sampled items e =
    none_either (needs_update m.mirror reg) _ _ (none_by (failed_at items) _ _ refl) refl
no_check_differs m (op.MemWrite mem map index value) place sampled items e = none_by (failed_at items) _ _ refl
no_check_differs m (op.MemRead mem map index) place sampled items e = none_by (failed_at items) _ _ refl
no_check_differs m (op.OtherWrite reg map value) place sampled items e = none_by (failed_at items) _ _ refl
no_check_differs m (op.OtherRead reg map) place sampled items e = none_by (failed_at items) _ _ refl
no_check_differs m _ place sampled items e = refl

-- an outcome without a value names nothing, where a good one has a value
none_read : (failed : Option ℕ) (m : ModelData) (good : Outcome) (v : ℕ) → good.end ≡ end.Value v
    → HasReadNothing (or_error failed m good).end → (or_error failed m good).differ ≡ 0
none_read None m good v value none = absurd (none v value)
none_read (Some k) m good v value none = refl

no_value_differs : (m : ModelData) (op : Op) (place sampled : ℕ) (items : List TraceItem) → is_any_check op ≡ true
    → HasReadNothing (outcome m op place sampled items).end → (outcome m op place sampled items).differ ≡ 0
no_value_differs m (op.Check reg map) place sampled items e none = none_read (failed_at items) _ _ _ refl none
no_value_differs m (op.BackCheck reg) place sampled items e none = absurd (none _ refl)
no_value_differs m (op.MemCheck mem map index value) place sampled items e none = none_read (failed_at items) _ _ _ refl none
no_value_differs m _ place sampled items e none = absurd (cc)

nothing_by : (s new : Scene) (op : Op) (event : Event) (g : Grant)
    → MatchResult g (λ place. IsDone s new op place event) (λ why. IsRefused s new op why event)
    → (is_any_check op ≡ false) ⊎ HasReadNothing event.end → event.differ ≡ 0
nothing_by s new op event (Ok place) d h =
    (done_tells s new op place event d).differ_is ∙ ⊎_elim
    (λ none. no_check_differs s.model op place d.sampled event.trace none)
    (λ none. ⊎_elim (λ check. no_value_differs s.model op place d.sampled event.trace check
    (λ read e. none read ((done_tells s new op place event d).end_is ∙ e)))
    (λ other. no_check_differs s.model op place d.sampled event.trace other) (cases_Bool (is_any_check op))) h
nothing_by s new op event (Err why) r h = (refused_tells s new op why event r).differ_is

pub nothing_differs : (s new : Scene) (op : Op) (event : Event) → Performs s new op event
    → (is_any_check op ≡ false) ⊎ HasReadNothing event.end → event.differ ≡ 0
nothing_differs s new op event p h = nothing_by s new op event (grant s.model op) p h
