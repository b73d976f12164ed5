-- What is written of a session to whose script lines are to be added, and its status.
use Rattle.std.specs.Prelude.{ℕ, ◌==◌, if◌then◌else◌, List, length, codes, Result, Ok, Err}
use Rattle.rl_access.specs.Model.{ModelData}
use Rattle.rl_bus.specs.Standing.{kinds_of}
use Rattle.rl_desc.specs.Data.{DescData}
use Rattle.rl_log.specs.declared.status.Status.TheVariants.{Passed, Refused}
use Rattle.rl_log.specs.Texts.{refused_text}
use Rattle.rl_model.specs.declared.rows.Item.{Item}
use Rattle.rl_session.specs.Session.{opening_of, script_of}
use Rattle.rl_grade.specs.declared.job.Task.{Task}
use Rattle.rl_grade.specs.Adapters.{fresh_standings}
use Rattle.rl_grade.specs.Script.{RefusedLine, tasks_from}
use Rattle.rl_plan.specs.declared.asked.Asked.{Asked}
use Rattle.rl_plan.specs.Enough.{added_items}
use Rattle.rl_plan.specs.Opening.{unflawed}
use Rattle.rl_plan.specs.Run.{Planned, model_of}
use Rattle.rl_plan.specs.Text.{lines_text}

abbrev pub nothing_text : List ℕ
nothing_text = codes "# nothing to add\n"

-- the plan's lines for these items, or that there are none
abbrev pub added_text : ModelData → Asked → List Item → List ℕ
added_text m asked items = if length items == 0 then nothing_text else lines_text m asked items

-- what a script of these tasks needs
abbrev pub needed_text : DescData → Asked → (script : List Task) → List ℕ
needed_text d asked script = added_text (model_of d) asked (added_items d asked script)

-- a script, or its first line that is refused
abbrev pub tasks_added : Asked → DescData → Result (List Task) RefusedLine → Planned
tasks_added asked d (Ok tasks) = record { text = needed_text d asked tasks; status = Passed }
tasks_added asked d (Err at) = record { text = refused_text at.number at.why; status = Refused }

abbrev pub script_added : Asked → DescData → (lines : List (List ℕ)) → Planned
script_added asked d lines = tasks_added asked d (tasks_from (model_of d) 1 lines)

-- a session that opens with a description, or is refused by its last line
abbrev pub opened_added : Asked → (lines : List (List ℕ)) → Result DescData (List ℕ) → Planned
opened_added asked lines (Ok d) = script_added asked d lines
opened_added asked lines (Err line) = record { text = line; status = Refused }

-- A session by its bytes, over a plain and an APB adapter: as `run` refuses it, then for a flaw, then for a line; or
-- the lines that its script needs.
abbrev pub added_of : Asked → (session : List ℕ) → Planned
added_of asked bytes = opened_added asked (script_of bytes) (unflawed (opening_of bytes (kinds_of fresh_standings)))
