-- What was told of a session to whose script lines are to be added.
use Rattle.std.proofs.Common.{◌≡◌, ℕ, false, List, [], All, Result, Ok, Err, IfOk, Some, None, IfSome, sym, ap, subst, ◌∙◌}
use Rattle.std.specs.declared.option.Option.{Option}
use Rattle.std.specs.Io.KnownBytes.{Keeps}
use Rattle.rl_access.specs.Model.{ModelData}
use Rattle.rl_bus.specs.Standing.{Standing, kinds_of}
use Rattle.rl_model.specs.declared.rows.Item.{Item}
use Rattle.rl_model.specs.Chip.{HasItem}
use Rattle.rl_desc.specs.Data.{DescData}
use Rattle.rl_report.specs.Lines.{lines_of}
use Rattle.rl_report.specs.Reading.{Reading, input_of}
use Rattle.rl_log.specs.declared.status.Status.{Status}
use Rattle.rl_log.specs.declared.status.Status.TheVariants.{Passed}
use Rattle.rl_log.specs.Statuses.{is_complete}
use Rattle.rl_log.specs.Telling.{Tells}
use Rattle.rl_log.proofs.TellingLemmas.{tells_none}
use Rattle.rl_session.specs.Session.{opening_of, script_of}
use Rattle.rl_session_run.specs.Opening.{AwaitsScript, OpensAs}
use Rattle.rl_session_run.specs.Telling.{Stops}
use Rattle.rl_grade.specs.declared.job.Task.{Task}
use Rattle.rl_grade.specs.declared.script.ScriptFault.{ScriptFault}
use Rattle.rl_grade.specs.declared.script.ScriptFault.TheVariants as fault
use Rattle.rl_grade.specs.Adapters.{fresh_standings}
use Rattle.rl_grade.specs.Reading.{refused_line}
use Rattle.rl_grade.specs.Script.{tasks_from}
use Rattle.rl_plan.specs.declared.asked.Asked.{Asked}
use Rattle.rl_plan.specs.Adding.{added_of, added_text, needed_text, opened_added, script_added, tasks_added}
use Rattle.rl_plan.specs.Enough.{added_items}
use Rattle.rl_plan.specs.Opening.{unflawed}
use Rattle.rl_plan.specs.Refusal.{EndsUnread}
use Rattle.rl_plan.specs.Run.{Planned, TellsPlan, desc_of, model_of}
use Rattle.rl_plan.proofs.BehindLemmas.{desc_back}

-- ---- the text

pub text_needed : {T E : Type 0} (text : T → List ℕ) (r : Result T E) (d again : DescData) (m : ModelData) (asked : Asked)
    (script : List Task) (items : List Item) → m ≡ model_of again → again ≡ d → items ≡ added_items d asked script
    → IfOk r (λ t. text t ≡ added_text m asked items) → IfOk r (λ t. text t ≡ needed_text d asked script)
text_needed text (Ok t) d again m asked script items is same chosen h =
    h ∙ ap (λ m. added_text m asked items) is ∙ ap (λ d. added_text (model_of d) asked items) same
    ∙ ap (added_text (model_of d) asked) chosen
text_needed text (Err e) d again m asked script items is same chosen h = tt

pub items_have : (d again : DescData) (m : ModelData) (items : List Item) → m ≡ model_of again → again ≡ d → All (HasItem d.chip) items
    → All (HasItem m.chip) items
items_have d again m items is same each =
    subst (λ (m : ModelData). All (HasItem m.chip) items) (sym (is ∙ ap model_of same)) each

-- ---- a script

early : (p : Planned) (status : Status) (old new : Option (List ℕ)) → is_complete status ≡ false → Keeps old new → TellsPlan p status old new
early p status old new broken kept = tells_none status p.status old new p.text broken kept

pub script_early : (input : Option (List ℕ)) (asked : Asked) (d : DescData) (status : Status) (old new : Option (List ℕ))
    → is_complete status ≡ false → Keeps old new → IfSome input (λ bytes. TellsPlan (script_added asked d (lines_of bytes)) status old new)
script_early None asked d status old new broken kept = tt
script_early (Some bytes) asked d status old new broken kept = early (script_added asked d (lines_of bytes)) status old new broken kept

pub script_told : (input : Option (List ℕ)) (asked : Asked) (d : DescData) (m : ModelData) (tasks : List Task) (status : Status)
    (old new : Option (List ℕ)) → m ≡ model_of d → d.flaws ≡ [] → IfSome input (λ bytes. tasks_from m 1 (lines_of bytes) ≡ Ok tasks)
    → Tells status Passed old new (needed_text (desc_of m) asked tasks)
    → IfSome input (λ bytes. TellsPlan (script_added asked d (lines_of bytes)) status old new)
script_told None asked d m tasks status old new is none given t = tt
script_told (Some bytes) asked d m tasks status old new is none given t =
    let same = desc_back d m is none in
    let read = subst (λ m. tasks_from m 1 (lines_of bytes) ≡ Ok tasks) is given in
    subst (λ t. TellsPlan (tasks_added asked d t) status old new) (sym read)
    (subst (λ d. Tells status Passed old new (needed_text d asked tasks)) same t)

pub script_unread : (input : Option (List ℕ)) (asked : Asked) (d : DescData) (m : ModelData) (why : ScriptFault) (status : Status)
    (old new : Option (List ℕ)) → m ≡ model_of d
    → IfSome (refused_line why) (λ at. IfSome input (λ bytes. tasks_from m 1 (lines_of bytes) ≡ Err at))
    → EndsUnread why status old new → IfSome input (λ bytes. TellsPlan (script_added asked d (lines_of bytes)) status old new)
script_unread None asked d m why status old new is given ends = tt
script_unread (Some bytes) asked d m (fault.Line number reason) status old new is given ends =
    let read = subst (λ m. tasks_from m 1 (lines_of bytes) ≡ Err (record { number = number; why = reason })) is given in
    subst (λ t. TellsPlan (tasks_added asked d t) status old new) (sym read) ends
script_unread (Some bytes) asked d m fault.Source status old new is given ends =
    early (script_added asked d (lines_of bytes)) status old new ends.0 ends.1
script_unread (Some bytes) asked d m fault.Memory status old new is given ends =
    early (script_added asked d (lines_of bytes)) status old new ends.0 ends.1

-- ---- a session

pub awaits_afresh : (d : DescData) (lines : Reading) (standings : List Standing) → standings ≡ fresh_standings
    → AwaitsScript d lines (kinds_of standings) → AwaitsScript d lines (kinds_of fresh_standings)
awaits_afresh d lines standings fresh h = subst (λ s. AwaitsScript d lines (kinds_of s)) fresh h

stopped : (asked : Asked) (lines : List (List ℕ)) (opening : Result DescData (List ℕ)) (status : Status) (old new : Option (List ℕ))
    → Stops opening status old new → TellsPlan (opened_added asked lines opening) status old new
stopped asked lines (Ok d) status old new s = early (script_added asked d lines) status old new s.0 s.1
stopped asked lines (Err line) status old new s = s

pub session_stopped : (input : Option (List ℕ)) (asked : Asked) (standings : List Standing) (status : Status) (old new : Option (List ℕ))
    → standings ≡ fresh_standings → IfSome input (λ bytes. Stops (unflawed (opening_of bytes (kinds_of standings))) status old new)
    → IfSome input (λ bytes. TellsPlan (added_of asked bytes) status old new)
session_stopped None asked standings status old new fresh s = tt
session_stopped (Some bytes) asked standings status old new fresh s =
    stopped asked (script_of bytes) (unflawed (opening_of bytes (kinds_of fresh_standings))) status old new
    (subst (λ a. Stops (unflawed (opening_of bytes (kinds_of a))) status old new) fresh s)

pub session_added : {K : Type 0} (written : K → Option (List ℕ)) (input : Option (List ℕ)) (asked : Asked) (standings : List Standing)
    (d : DescData) (lines : Reading) (left : Option (List ℕ)) (status : Status) (old mid new : K) → standings ≡ fresh_standings
    → IfSome input (λ bytes. OpensAs (unflawed (opening_of bytes (kinds_of standings))) bytes d lines left) → mid ≡ old
    → IfSome (input_of lines left) (λ bytes. TellsPlan (script_added asked d (lines_of bytes)) status (written mid) (written new))
    → IfSome input (λ bytes. TellsPlan (added_of asked bytes) status (written old) (written new))
session_added written None asked standings d lines left status old mid new fresh opens same t = tt
session_added written (Some bytes) asked standings d lines left status old mid new fresh opens same t =
    let told = subst (λ i. IfSome i (λ bytes. TellsPlan (script_added asked d (lines_of bytes)) status (written mid) (written new)))
    opens.rest t in
    let opening = subst (λ a. unflawed (opening_of bytes (kinds_of a)) ≡ Ok d) fresh opens.opening in
    let added = subst (λ o. TellsPlan (opened_added asked (script_of bytes) o) status (written mid) (written new)) (sym opening) told in
    subst (λ k. TellsPlan (added_of asked bytes) status (written k) (written new)) same added
