-- What was told of a session that is graded.
use Rattle.std.proofs.Common.{◌≡◌, ◌≢◌, ◌==◌, if◌then◌else◌, Bool, ℕ, ◌≤◌, true, false, List, [], ◌∷◌, length, Result, Ok, Err, IfErr, IfOk, Some, None, IfSome, refl, sym, ap, subst, ◌∙◌, arith}
use Rattle.std.specs.declared.option.Option.{Option}
use Rattle.std.specs.Io.KnownBytes.{Keeps}
use Rattle.std.proofs.lemmas.Bool.{eqb-true, true≢false}
use Rattle.rl_access.specs.Model.{ModelData}
use Rattle.rl_access.specs.World.{IsAt, World, world}
use Rattle.rl_bus.specs.Standing.{Standing, kinds_of}
use Rattle.rl_bus.specs.State.{State}
use Rattle.rl_flaw.specs.declared.flaw.Flaw.{Flaw}
use Rattle.rl_desc.specs.Data.{DescData}
use Rattle.rl_report.specs.declared.sink.Sink.{Ghosts as Sink}
use Rattle.rl_report.specs.Lines.{lines_of}
use Rattle.rl_report.specs.Pieces.{Puts}
use Rattle.rl_report.specs.Reading.{Reading, input_of}
use Rattle.rl_log.specs.declared.status.Status.{Status}
use Rattle.rl_log.specs.declared.status.Status.TheVariants.{Passed, Found, Refused, SinkFault, SourceFault, Memory, Words}
use Rattle.rl_log.specs.Causes.{IsCaused}
use Rattle.rl_log.specs.Statuses.{is_complete}
use Rattle.rl_log.specs.Telling.{Tells}
use Rattle.rl_log.specs.Earlier.{KeepsEarlier}
use Rattle.rl_log.proofs.TellingLemmas.{tells_all, tells_front, tells_none, tells_written}
use Rattle.std.proofs.KnownBytes.{Keeps-refl}
use Rattle.rl_play.proofs.EndingLemmas.{append_none}
use Rattle.rl_session.specs.Judged.{first_world}
use Rattle.rl_session.specs.Session.{opening_of, script_of}
use Rattle.rl_session_run.specs.Opening.{OpensAs}
use Rattle.rl_session_run.specs.Stays.{LeavesEnded, LeavesOpen, StaysOpen}
use Rattle.rl_session_run.specs.Telling.{Stops}
use Rattle.rl_session_run.proofs.StaysLemmas.{open_given_up, open_same}
use Rattle.rl_grade.specs.declared.job.Task.{Task}
use Rattle.rl_grade.specs.declared.script.ScriptFault.{ScriptFault}
use Rattle.rl_grade.specs.declared.script.ScriptFault.TheVariants as fault
use Rattle.rl_grade.specs.declared.seen.Seen.{Seen}
use Rattle.rl_grade.specs.Adapters.{fresh_standings}
use Rattle.rl_grade.specs.Alike.{without_flaws}
use Rattle.rl_grade.specs.Batch.{IsShown}
use Rattle.rl_grade.specs.Find.{all_seen}
use Rattle.rl_grade.specs.Heard.{Heard}
use Rattle.rl_grade.specs.Job.{heard_by}
use Rattle.rl_grade.specs.Reading.{refused_line}
use Rattle.rl_grade.specs.Record.{items_from}
use Rattle.rl_grade.specs.Script.{tasks_from}
use Rattle.rl_grade_report.specs.declared.asked.Asked.{Asked}
use Rattle.rl_grade_report.specs.Asked.{is_marked}
use Rattle.rl_grade_report.specs.Grading.{Base, Grading, graded_as, graded_over, grading_of, grading_with, opened_graded, script_graded, tasks_graded}
use Rattle.rl_grade_report.specs.Mark.{mark_from, mark_of}
use Rattle.rl_grade_report.specs.Opening.{flaws_text, unflawed}
use Rattle.rl_grade_report.specs.Progress.{TellsGraded, desc_of, status_of}
use Rattle.rl_grade_report.specs.Refusal.{EndsUnread}
use Rattle.rl_grade_report.specs.Waivers.{rows_of}

-- ---- a text and its status

pub complete_if : (below : Bool) → is_complete (if below then Found else Passed) ≡ true
complete_if true = refl
complete_if false = refl

pub told_by : (r : Result Status Status) (expected : Status) (old new : Option (List ℕ)) (text : List ℕ) → Puts old new text r
    → IfOk r (λ s. s ≡ expected) → IfErr r (λ s. is_complete s ≡ false) → Tells (status_of r) expected old new text
told_by (Ok s) expected old new text p same broken = subst (λ s. Tells s expected old new text) (sym same) (tells_all expected old new text p.whole)
told_by (Err s) expected old new text p same broken = tells_front s expected old new text broken p.part

pub caused_by : (r : Result Status Status) (source source_now sink sink_now : ℕ) → IfOk r (λ s. is_complete s ≡ true)
    → IfErr r (λ s. IsCaused s 0 0 sink sink_now) → IsCaused (status_of r) source source_now sink sink_now
caused_by (Ok Passed) source source_now sink sink_now whole h =
    record { source_fault = λ e. absurd (cc); sink_fault = λ e. absurd (cc); known = λ e. cc }
caused_by (Ok Found) source source_now sink sink_now whole h =
    record { source_fault = λ e. absurd (cc); sink_fault = λ e. absurd (cc); known = λ e. cc }
caused_by (Ok Refused) source source_now sink sink_now whole h =
    record { source_fault = λ e. absurd (cc); sink_fault = λ e. absurd (cc); known = λ e. cc }
caused_by (Ok SourceFault) source source_now sink sink_now whole h = absurd (true≢false (sym whole))
caused_by (Ok SinkFault) source source_now sink sink_now whole h = absurd (true≢false (sym whole))
caused_by (Ok Memory) source source_now sink sink_now whole h = absurd (true≢false (sym whole))
caused_by (Ok Words) source source_now sink sink_now whole h = absurd (true≢false (sym whole))
caused_by (Err s) source source_now sink sink_now whole h =
    record { source_fault = λ e. absurd (omega (arith, h.source_fault e)); sink_fault = h.sink_fault; known = h.known }

pub complete_by : (r : Result Status Status) (expected : Status) → IfOk r (λ s. s ≡ expected) → is_complete expected ≡ true
    → IfOk r (λ s. is_complete s ≡ true)
complete_by (Ok s) expected same whole = ap is_complete same ∙ whole
complete_by (Err s) expected same whole = tt

pub leaves_graded : {K : Type 0} (sink : Sink K) (r : Result Status Status) (source source_now : ℕ) (old new : K) → source ≤ source_now
    → IfOk r (λ s. is_complete s ≡ true) → IfErr r (λ s. IsCaused s 0 0 (sink.faults old) (sink.faults new))
    → StaysOpen sink.written sink.faults sink.ends old new → LeavesOpen sink (status_of r) source source_now old new
leaves_graded sink r source source_now old new later whole cause stays = record {
  source_later = later;
  cause = caused_by r source source_now (sink.faults old) (sink.faults new) whole cause;
  stays = stays;
}

-- what the tasks show, by what is heard of them
pub over_heard : (asked : Asked) (mark : Option ℕ) (waivers : List ℕ) (desc d : DescData) (tasks : List Task) (heard : List Heard) (seen : List Seen)
    (items : ℕ) → desc ≡ d → seen ≡ all_seen heard → items ≡ items_from 0 heard
    → graded_over asked mark desc (record { waivers = rows_of waivers; tasks = tasks; seen = seen; items = items })
    ≡ graded_as asked mark waivers d tasks heard
over_heard asked mark waivers desc d tasks heard seen items same seen_are items_are =
    let base : List Seen → ℕ → Base = λ seen items. record { waivers = rows_of waivers; tasks = tasks; seen = seen; items = items } in
    ap (λ d. graded_over asked mark d (base seen items)) same
    ∙ ap (λ s. graded_over asked mark d (base s items)) seen_are
    ∙ ap (λ n. graded_over asked mark d (base (all_seen heard) n)) items_are

-- ---- a script

world_is : (m : ModelData) (st : State) (desc : DescData) (standings : List Standing) → standings ≡ fresh_standings
    → IsAt m standings (Some st) (first_world desc standings) → world m standings st ≡ first_world desc fresh_standings
world_is m st desc standings fresh h =
    let device : st ≡ (first_world desc standings).device = cc (h.device_is) in
    ap (λ m. world m standings st) h.model_is ∙ ap (λ s. world (first_world desc standings).model s st) fresh
    ∙ ap (λ st. world (first_world desc standings).model fresh_standings st) device

desc_is : (m : ModelData) (desc : DescData) (standings : List Standing) → m ≡ (first_world desc standings).model → desc.flaws ≡ []
    → desc_of m ≡ desc
desc_is m desc standings is none =
    let with : List Flaw → DescData = λ flaws. record { chip = desc.chip; layout = desc.layout; flaws = flaws } in
    ap desc_of is ∙ ap with (sym none)

-- a model and its device begin as those of the description without flaws
pub begun_is : (m : ModelData) (st : State) (desc : DescData) (standings : List Standing) → standings ≡ fresh_standings
    → IsAt m standings (Some st) (first_world desc standings) → desc.flaws ≡ []
    → world m standings st ≡ first_world (desc_of m) fresh_standings
begun_is m st desc standings fresh h none =
    world_is m st desc standings fresh h ∙ ap (λ d. first_world d fresh_standings) (sym (desc_is m desc standings h.model_is none))

pub shown_is : (m : ModelData) (st : State) (desc : DescData) (standings : List Standing) (tasks : List Task) (shown : List Seen)
    → shown ≡ all_seen (heard_by (world m standings st) tasks) → world m standings st ≡ first_world (desc_of m) fresh_standings
    → desc ≡ desc_of m → IsShown desc tasks shown
shown_is m st desc standings tasks shown is begun same =
    is ∙ ap (λ w. all_seen (heard_by w tasks)) (begun ∙ ap (λ (d : DescData). first_world (without_flaws d) fresh_standings) (sym same))

module _ (asked : Asked) (mark : Option ℕ) (waivers : List ℕ) where
  -- what is graded of these events, from this description
  abbrev graded_of : DescData → List Task → World → Grading
  graded_of desc tasks w = graded_as asked mark waivers desc tasks (heard_by w tasks)

  pub script_told : (input : Option (List ℕ)) (desc : DescData) (m : ModelData) (st : State)
      (standings : List Standing) (tasks : List Task) (r : Result Status Status) (old new : Option (List ℕ)) → standings ≡ fresh_standings
      → IsAt m standings (Some st) (first_world desc standings) → desc.flaws ≡ []
      → IfSome input (λ bytes. tasks_from m 1 (lines_of bytes) ≡ Ok tasks)
      → Puts old new (graded_of (desc_of m) tasks (world m standings st)).text r
      → IfOk r (λ s. s ≡ (graded_of (desc_of m) tasks (world m standings st)).status) → IfErr r (λ s. is_complete s ≡ false)
      → IfSome input (λ bytes. TellsGraded (script_graded asked mark waivers desc (lines_of bytes)) (status_of r) old new)
  script_told None desc m st standings tasks r old new fresh h none given p same broken = tt
  script_told (Some bytes) desc m st standings tasks r old new fresh h none given p same broken =
      let lines = lines_of bytes in
      let is : graded_of (desc_of m) tasks (world m standings st) ≡ graded_of desc tasks (first_world desc fresh_standings) =
      ap (λ d. graded_of d tasks (world m standings st)) (desc_is m desc standings h.model_is none)
      ∙ ap (graded_of desc tasks) (world_is m st desc standings fresh h) in
      let g = graded_of (desc_of m) tasks (world m standings st) in
      let told = subst (λ (g : Grading). Tells (status_of r) g.status old new g.text) is (told_by r g.status old new g.text p same broken) in
      let read = subst (λ m. tasks_from m 1 lines ≡ Ok tasks) h.model_is given in
      subst (λ t. TellsGraded (tasks_graded asked mark waivers desc t) (status_of r) old new) (sym read) told

early : (g : Grading) (status : Status) (old new : Option (List ℕ)) → is_complete status ≡ false → Keeps old new
    → TellsGraded g status old new
early g status old new broken kept = tells_none status g.status old new g.text broken kept

pub script_early : (input : Option (List ℕ)) (asked : Asked) (mark : Option ℕ) (waivers : List ℕ) (desc : DescData) (status : Status) (old new : Option (List ℕ))
    → is_complete status ≡ false → Keeps old new
    → IfSome input (λ bytes. TellsGraded (script_graded asked mark waivers desc (lines_of bytes)) status old new)
script_early None asked mark waivers desc status old new broken kept = tt
script_early (Some bytes) asked mark waivers desc status old new broken kept =
    early (script_graded asked mark waivers desc (lines_of bytes)) status old new broken kept

pub script_unread : (input : Option (List ℕ)) (asked : Asked) (mark : Option ℕ) (waivers : List ℕ) (desc : DescData) (m : ModelData) (standings : List Standing)
    (why : ScriptFault) (status : Status) (old new : Option (List ℕ)) → m ≡ (first_world desc standings).model
    → IfSome (refused_line why) (λ at. IfSome input (λ bytes. tasks_from m 1 (lines_of bytes) ≡ Err at))
    → EndsUnread why status old new
    → IfSome input (λ bytes. TellsGraded (script_graded asked mark waivers desc (lines_of bytes)) status old new)
script_unread None asked mark waivers desc m standings why status old new is given ends = tt
script_unread (Some bytes) asked mark waivers desc m standings (fault.Line number reason) status old new is given ends =
    let read = subst (λ m. tasks_from m 1 (lines_of bytes) ≡ Err (record { number = number; why = reason })) is given in
    subst (λ t. TellsGraded (tasks_graded asked mark waivers desc t) status old new) (sym read) ends
script_unread (Some bytes) asked mark waivers desc m standings fault.Source status old new is given ends =
    early (script_graded asked mark waivers desc (lines_of bytes)) status old new ends.0 ends.1
script_unread (Some bytes) asked mark waivers desc m standings fault.Memory status old new is given ends =
    early (script_graded asked mark waivers desc (lines_of bytes)) status old new ends.0 ends.1

-- ---- what passes the check

passes : (desc : DescData) (none : Bool) → (if none then Ok desc else Err flaws_text) ≡ Ok desc → none ≡ true
passes desc true is = refl
passes desc false is = let no : Err flaws_text ≡ Ok desc = is in absurd (cc)

no_flaws : (flaws : List Flaw) → (length flaws == 0) ≡ true → flaws ≡ []
no_flaws [] none = refl
no_flaws (flaw ∷ flaws) none = absurd (omega (arith, eqb-true (length (flaw ∷ flaws)) 0 none))

pub none_flawed : (desc : DescData) → unflawed (Ok desc) ≡ Ok desc → desc.flaws ≡ []
none_flawed desc is = no_flaws desc.flaws (passes desc (length desc.flaws == 0) is)

-- ---- a session

stopped : (asked : Asked) (mark : Option ℕ) (waivers : List ℕ) (lines : List (List ℕ)) (opening : Result DescData (List ℕ)) (status : Status) (old new : Option (List ℕ))
    → Stops opening status old new → TellsGraded (opened_graded asked mark waivers lines opening) status old new
stopped asked mark waivers lines (Ok desc) status old new s = early (script_graded asked mark waivers desc lines) status old new s.0 s.1
stopped asked mark waivers lines (Err line) status old new s = s

pub session_stopped : (input : Option (List ℕ)) (asked : Asked) (mark : Option ℕ) (waivers : List ℕ) (standings : List Standing) (status : Status) (old new : Option (List ℕ))
    → standings ≡ fresh_standings → IfSome input (λ bytes. Stops (unflawed (opening_of bytes (kinds_of standings))) status old new)
    → IfSome input (λ bytes. TellsGraded (grading_with asked mark waivers bytes) status old new)
session_stopped None asked mark waivers standings status old new fresh s = tt
session_stopped (Some bytes) asked mark waivers standings status old new fresh s =
    stopped asked mark waivers (script_of bytes) (unflawed (opening_of bytes (kinds_of fresh_standings))) status old new
    (subst (λ a. Stops (unflawed (opening_of bytes (kinds_of a))) status old new) fresh s)

pub session_graded : {K : Type 0} (written : K → Option (List ℕ)) (input : Option (List ℕ)) (asked : Asked) (mark : Option ℕ) (waivers : List ℕ) (standings : List Standing)
    (desc : DescData) (lines : Reading) (left : Option (List ℕ)) (status : Status) (old mid new : K) → standings ≡ fresh_standings
    → IfSome input (λ bytes. OpensAs (unflawed (opening_of bytes (kinds_of standings))) bytes desc lines left) → mid ≡ old
    → IfSome (input_of lines left) (λ bytes. TellsGraded (script_graded asked mark waivers desc (lines_of bytes)) status (written mid) (written new))
    → IfSome input (λ bytes. TellsGraded (grading_with asked mark waivers bytes) status (written old) (written new))
session_graded written None asked mark waivers standings desc lines left status old mid new fresh opens same t = tt
session_graded written (Some bytes) asked mark waivers standings desc lines left status old mid new fresh opens same t =
    let told = subst (λ i. IfSome i (λ bytes. TellsGraded (script_graded asked mark waivers desc (lines_of bytes)) status (written mid) (written new)))
    opens.rest t in
    let opening = subst (λ a. unflawed (opening_of bytes (kinds_of a)) ≡ Ok desc) fresh opens.opening in
    let graded = subst (λ o. TellsGraded (opened_graded asked mark waivers (script_of bytes) o) status (written mid) (written new)) (sym opening) told in
    subst (λ k. TellsGraded (grading_with asked mark waivers bytes) status (written k) (written new)) same graded

pub session_ended : (input : Option (List ℕ)) (asked : Asked) (mark : Option ℕ) (waivers : List ℕ) (status result : Status) (old mid new : Option (List ℕ))
    → (result ≢ SinkFault → result ≡ status) → KeepsEarlier old new → Keeps mid new
    → IfSome input (λ bytes. TellsGraded (grading_with asked mark waivers bytes) status old mid)
    → IfSome input (λ bytes. TellsGraded (grading_with asked mark waivers bytes) result old new)
session_ended None asked mark waivers status result old mid new same earlier kept t = tt
session_ended (Some bytes) asked mark waivers status result old mid new same earlier kept t =
    let g = grading_with asked mark waivers bytes in
    tells_written status result g.status old mid new [] g.text same earlier (subst (Keeps mid) (sym (append_none new)) kept) (λ c. kept) t

-- ---- whether the mark is told

module _ (asked : Asked) (waivers bytes : List ℕ) where
  abbrev with_mark : Bool → Grading
  with_mark marked = grading_with asked (if marked then Some (mark_from (mark_of bytes) waivers) else None) waivers bytes

  pub marked_is : is_marked asked ≡ true
      → grading_of asked waivers bytes ≡ grading_with asked (Some (mark_from (mark_of bytes) waivers)) waivers bytes
  marked_is at = ap with_mark at

  pub unmarked_is : is_marked asked ≡ false → grading_of asked waivers bytes ≡ grading_with asked None waivers bytes
  unmarked_is at = ap with_mark at

pub told_marked : (input : Option (List ℕ)) (asked : Asked) (waivers : List ℕ) (status : Status) (old new : Option (List ℕ)) → is_marked asked ≡ true
    → IfSome input (λ bytes. TellsGraded (grading_with asked (Some (mark_from (mark_of bytes) waivers)) waivers bytes) status old new)
    → IfSome input (λ bytes. TellsGraded (grading_of asked waivers bytes) status old new)
told_marked None asked waivers status old new at t = tt
told_marked (Some bytes) asked waivers status old new at t =
    subst (λ g. TellsGraded g status old new) (sym (marked_is asked waivers bytes at)) t

pub told_unmarked : (input : Option (List ℕ)) (asked : Asked) (waivers : List ℕ) (status : Status) (old new : Option (List ℕ)) → is_marked asked ≡ false
    → IfSome input (λ bytes. TellsGraded (grading_with asked None waivers bytes) status old new)
    → IfSome input (λ bytes. TellsGraded (grading_of asked waivers bytes) status old new)
told_unmarked None asked waivers status old new at t = tt
told_unmarked (Some bytes) asked waivers status old new at t =
    subst (λ g. TellsGraded g status old new) (sym (unmarked_is asked waivers bytes at)) t

-- ---- a session that was read whole

pub whole_told : (input : Option (List ℕ)) (asked : Asked) (waivers whole : List ℕ) (mark : ℕ) (status : Status) (old new : Option (List ℕ))
    → IfSome input (λ bytes. whole ≡ bytes) → mark ≡ mark_from (mark_of whole) waivers
    → TellsGraded (grading_with asked (Some mark) waivers whole) status old new
    → IfSome input (λ bytes. TellsGraded (grading_with asked (Some (mark_from (mark_of bytes) waivers)) waivers bytes) status old new)
whole_told None asked waivers whole mark status old new same is t = tt
whole_told (Some bytes) asked waivers whole mark status old new same is t =
    subst (λ bytes. TellsGraded (grading_with asked (Some (mark_from (mark_of bytes) waivers)) waivers bytes) status old new) same
    (subst (λ mark. TellsGraded (grading_with asked (Some mark) waivers whole) status old new) is t)

pub unread_told : (input : Option (List ℕ)) (asked : Asked) (waivers : List ℕ) (status : Status) (old : Option (List ℕ)) → is_complete status ≡ false
    → IfSome input (λ bytes. TellsGraded (grading_with asked (Some (mark_from (mark_of bytes) waivers)) waivers bytes) status old old)
unread_told None asked waivers status old broken = tt
unread_told (Some bytes) asked waivers status old broken =
    early (grading_with asked (Some (mark_from (mark_of bytes) waivers)) waivers bytes) status old old broken (Keeps-refl old)

-- nothing came of it but that its source was read
pub unread_leaves : {K : Type 0} (sink : Sink K) (status : Status) (source source_now : ℕ) (log : K) → source ≤ source_now
    → is_complete status ≡ false → IsCaused status source source_now 0 0 → LeavesEnded sink status source source_now log log
unread_leaves sink status source source_now log later broken cause = open_given_up sink status source source_now log log broken (record {
  source_later = later;
  cause = record {
    source_fault = cause.source_fault;
    sink_fault = λ e. absurd (omega (arith, cause.sink_fault e));
    known = cause.known;
  };
  stays = open_same sink.written sink.faults sink.ends log log refl;
})

-- a source in memory never fails
pub whole_leaves : {K : Type 0} (sink : Sink K) (status : Status) (source source_now : ℕ) (old new : K) → source ≤ source_now
    → LeavesEnded sink status 0 0 old new → LeavesEnded sink status source source_now old new
whole_leaves sink status source source_now old new later left = record {
  keeps_earlier = left.keeps_earlier;
  source_later = later;
  log_later = left.log_later;
  cause = record {
    source_fault = λ e. absurd (omega (arith, left.cause.source_fault e));
    sink_fault = left.cause.sink_fault;
    known = left.cause.known;
  };
  ended = left.ended;
  not_ended = left.not_ended;
}
