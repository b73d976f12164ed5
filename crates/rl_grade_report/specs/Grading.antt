-- What is written of a session that is graded, and its status.
use Rattle.std.specs.Prelude.{ℕ, ◌+◌, Bool, if◌then◌else◌, List, [], ◌∷◌, ◌++◌, length, map, codes, decimal, Option, Some, None, Result, Ok, Err}
use Rattle.rl_policy.specs.Numbers.{hex_digits}
use Rattle.rl_desc.specs.Data.{DescData}
use Rattle.rl_log.specs.declared.status.Status.{Status}
use Rattle.rl_log.specs.declared.status.Status.TheVariants.{Refused}
use Rattle.rl_log.specs.Texts.{refused_text}
use Rattle.rl_session.specs.Judged.{first_world}
use Rattle.rl_session.specs.Session.{script_of}
use Rattle.rl_grade.specs.declared.grade.Share.{Share}
use Rattle.rl_grade.specs.declared.job.Task.{Task}
use Rattle.rl_grade.specs.declared.place.Place.{Place}
use Rattle.rl_grade.specs.declared.seen.Seen.{Seen}
use Rattle.rl_grade.specs.Adapters.{fresh_standings}
use Rattle.rl_grade.specs.Find.{all_seen}
use Rattle.rl_grade.specs.Heard.{Heard}
use Rattle.rl_grade.specs.Job.{heard_by}
use Rattle.rl_grade.specs.Place.{flaws_at}
use Rattle.rl_grade.specs.Record.{items_from}
use Rattle.rl_grade.specs.Script.{RefusedLine, tasks_from}
use Rattle.rl_grade.specs.Share.{grades_of}
use Rattle.rl_grade_report.specs.declared.totals.Totals.{Totals}
use Rattle.rl_report.specs.Pieces.{joined}
use Rattle.rl_grade_report.specs.Lines.{line_text}
use Rattle.rl_grade_report.specs.Row.{found_text, rows_text}
use Rattle.rl_grade_report.specs.Totals.{capped, end_text, totals_of}
use Rattle.rl_grade_report.specs.declared.asked.Asked.{Asked}
use Rattle.rl_grade_report.specs.declared.asked.Tell.{Tell}
use Rattle.rl_grade_report.specs.declared.asked.Tell.TheVariants.{Run, Missed, Hidden, Found, Waived, Lines, Json}
use Rattle.rl_grade_report.specs.declared.facts.Facts.{Facts}
use Rattle.rl_grade_report.specs.declared.verdict.Judged.{Judged}
use Rattle.rl_grade_report.specs.declared.verdict.Verdict.TheVariants as verdict
use Rattle.rl_grade_report.specs.declared.waiving.Unwaived.{Unwaived}
use Rattle.rl_grade_report.specs.Asked.{is_json, is_marked, is_part, status_at}
use Rattle.rl_grade_report.specs.Firsts.{lines_text}
use Rattle.rl_grade_report.specs.Json.{json_text}
use Rattle.rl_grade_report.specs.Judging.{judged_by}
use Rattle.rl_grade_report.specs.Mark.{mark_from, mark_of}
use Rattle.rl_grade_report.specs.Opening.{graded_opening}
use Rattle.rl_grade_report.specs.Places.{places_of}
use Rattle.rl_grade_report.specs.Waivers.{RowData, rows_of}
use Rattle.rl_grade_report.specs.Waiving.{fault_in, unwaived_text}

-- ---- places

-- which flaws are waived, what a script shows without a flaw, and how many bus items it sends
pub record Base : Type 0 where
  pub waivers : List RowData
  pub tasks : List Task
  pub seen : List Seen
  pub items : ℕ

-- the flaws of a place that are tried, each with what is said of it, where so many stand before the place
abbrev pub judged_at : Asked → DescData → Base → (before : ℕ) → Place → List Judged
judged_at asked d base before place =
    map (judged_by d base.waivers) (grades_of d base.tasks base.seen asked.share before (flaws_at d base.items place))

-- how many stand before the next place; a count that has come to its end stays there
abbrev pub flaws_behind : DescData → Base → (before : ℕ) → Place → ℕ
flaws_behind d base before place = capped (before + length (flaws_at d base.items place))

-- those of one place after another
unfoldable pub judged_from : Asked → DescData → Base → (before : ℕ) → List Place → List Judged
judged_from asked d base before [] = []
judged_from asked d base before (place ∷ places) =
    judged_at asked d base before place ++ judged_from asked d base (flaws_behind d base before place) places

-- all that are tried
abbrev pub all_judged : Asked → DescData → Base → List Judged
all_judged asked d base = judged_from asked d base 0 (places_of d.chip)

-- ---- what is told

-- a line for `run`, rows for `missed`, `hidden`, `found` and `waived`
abbrev pub place_text : Tell → DescData → Place → List Judged → List ℕ
place_text Run d place judged = line_text d.chip d.layout place judged
place_text Missed d place judged = rows_text d.chip d.layout judged verdict.Missed
place_text Hidden d place judged = rows_text d.chip d.layout judged verdict.Hidden
place_text Found d place judged = found_text d.chip d.layout judged
place_text Waived d place judged = rows_text d.chip d.layout judged verdict.Waived
place_text Lines d place judged = []
place_text Json d place judged = []

-- place by place
unfoldable pub places_text : Asked → DescData → Base → (before : ℕ) → List Place → List ℕ
places_text asked d base before [] = []
places_text asked d base before (place ∷ places) =
    place_text asked.tell d place (judged_at asked d base before place)
    ++ places_text asked d base (flaws_behind d base before place) places

-- which share of which session
abbrev pub share_line : Share → (mark : ℕ) → List ℕ
share_line share mark =
    joined (codes "# share " ∷ decimal share.first ∷ codes "/" ∷ decimal share.every ∷ codes " of session 0x"
    ∷ hex_digits mark ∷ codes "\n" ∷ [])

abbrev pub head_of : (json : Bool) → Share → (mark : Option ℕ) → List ℕ
head_of json share None = []
head_of json share (Some mark) = if json then [] else share_line share mark

-- before the places: a share that isn't all says which it is
abbrev pub head_text : Asked → Facts → List ℕ
head_text asked facts = head_of (is_json asked.tell) asked.share facts.mark

-- the totals of a share of rows, as a comment
abbrev pub part_text : Asked → Totals → List ℕ
part_text asked totals = if is_part asked then codes "# " ++ end_text totals else []

abbrev pub last_of : Tell → Asked → Facts → DescData → List Task → List Judged → List ℕ
last_of Run asked facts d tasks judged = end_text (totals_of judged)
last_of Missed asked facts d tasks judged = part_text asked (totals_of judged)
last_of Hidden asked facts d tasks judged = part_text asked (totals_of judged)
last_of Found asked facts d tasks judged = part_text asked (totals_of judged)
last_of Waived asked facts d tasks judged = part_text asked (totals_of judged)
last_of Lines asked facts d tasks judged = lines_text tasks judged ++ end_text (totals_of judged)
last_of Json asked facts d tasks judged = json_text asked facts d.chip d.layout judged

-- behind the places
abbrev pub last_text : Asked → Facts → DescData → List Task → List Judged → List ℕ
last_text asked facts d tasks judged = last_of asked.tell asked facts d tasks judged

-- ---- a script

abbrev pub base_of : (waivers : List RowData) → List Task → List Heard → Base
base_of waivers tasks heard =
    record { waivers = waivers; tasks = tasks; seen = all_seen heard; items = items_from 0 heard }

abbrev pub facts_of : (mark : Option ℕ) → Base → Facts
facts_of mark base = record { mark = mark; lines = length base.tasks; events = length base.seen; items = base.items }

-- the whole text, by what the script shows without a flaw
abbrev pub reported : Asked → (mark : Option ℕ) → DescData → Base → List ℕ
reported asked mark d base =
    (head_text asked (facts_of mark base) ++ places_text asked d base 0 (places_of d.chip))
    ++ last_text asked (facts_of mark base) d base.tasks (all_judged asked d base)

-- what is written, and the status
pub record Grading : Type 0 where
  pub text : List ℕ
  pub status : Status

abbrev pub refused_with : List ℕ → Grading
refused_with line = record { text = line; status = Refused }

-- what is written where the waivers are refused, or aren't
abbrev pub graded_unless : Option Unwaived → Asked → (mark : Option ℕ) → DescData → Base → Grading
graded_unless (Some why) asked mark d base = refused_with (unwaived_text why)
graded_unless None asked mark d base =
    record { text = reported asked mark d base; status = status_at asked (totals_of (all_judged asked d base)) }

-- by what the script shows without a flaw
abbrev pub graded_over : Asked → (mark : Option ℕ) → DescData → Base → Grading
graded_over asked mark d base = graded_unless (fault_in d base.items base.waivers) asked mark d base

-- by a file of waivers, by tasks, and by the events that these have without a flaw
abbrev pub graded_as : Asked → (mark : Option ℕ) → (waivers : List ℕ) → DescData → List Task → List Heard → Grading
graded_as asked mark waivers d tasks heard = graded_over asked mark d (base_of (rows_of waivers) tasks heard)

-- the tasks are done over adapters that have sent nothing
abbrev pub tasks_graded : Asked → (mark : Option ℕ) → (waivers : List ℕ) → DescData → Result (List Task) RefusedLine
    → Grading
tasks_graded asked mark waivers d (Ok tasks) =
    graded_as asked mark waivers d tasks (heard_by (first_world d fresh_standings) tasks)
tasks_graded asked mark waivers d (Err at) = refused_with (refused_text at.number at.why)

abbrev pub script_graded : Asked → (mark : Option ℕ) → (waivers : List ℕ) → DescData → (lines : List (List ℕ)) → Grading
script_graded asked mark waivers d lines =
    tasks_graded asked mark waivers d (tasks_from (first_world d fresh_standings).model 1 lines)

-- ---- a session

abbrev pub opened_graded : Asked → (mark : Option ℕ) → (waivers : List ℕ) → (lines : List (List ℕ))
    → Result DescData (List ℕ) → Grading
opened_graded asked mark waivers lines (Ok d) = script_graded asked mark waivers d lines
opened_graded asked mark waivers lines (Err line) = refused_with line

-- what a session is graded as, where this mark is told
abbrev pub grading_with : Asked → (mark : Option ℕ) → (waivers : List ℕ) → List ℕ → Grading
grading_with asked mark waivers bytes = opened_graded asked mark waivers (script_of bytes) (graded_opening bytes)

-- the mark of a session with the waivers behind it, where its text tells it
abbrev pub mark_told : Asked → (waivers : List ℕ) → List ℕ → Option ℕ
mark_told asked waivers bytes = if is_marked asked then Some (mark_from (mark_of bytes) waivers) else None

-- what a session is graded as, with such a file of waivers; an empty one waives nothing
abbrev pub grading_of : Asked → (waivers : List ℕ) → List ℕ → Grading
grading_of asked waivers bytes = grading_with asked (mark_told asked waivers bytes) waivers bytes
