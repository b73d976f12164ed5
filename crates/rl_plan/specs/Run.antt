-- What is written of a session for whose description a plan is made, and its status.
use Rattle.std.specs.Prelude.{ℕ, List, [], Result, Ok, Err, Option}
use Rattle.rl_bus.specs.declared.op.AdapterKind.{AdapterKind}
use Rattle.rl_access.specs.Model.{ModelData}
use Rattle.rl_desc.specs.Data.{DescData}
use Rattle.rl_log.specs.declared.status.Status.{Status}
use Rattle.rl_log.specs.declared.status.Status.TheVariants.{Passed, Refused, SinkFault}
use Rattle.rl_log.specs.Telling.{Tells}
use Rattle.rl_session.specs.Judged.{first_world}
use Rattle.rl_session.specs.Session.{opening_of}
use Rattle.rl_plan.specs.declared.asked.Asked.{Asked}
use Rattle.rl_plan.specs.Opening.{unflawed}
use Rattle.rl_plan.specs.Text.{plan_text}

pub record Planned : Type 0 where
  pub text : List ℕ
  pub status : Status

-- the model of a description
abbrev pub model_of : DescData → ModelData
model_of d = (first_world d []).model

-- a model's chip and layout, without a flaw
abbrev pub desc_of : ModelData → DescData
desc_of m = record { chip = m.chip; layout = m.layout; flaws = [] }

-- a session that opens with a description, or is refused by its last line
abbrev pub opened_planned : Asked → Result DescData (List ℕ) → Planned
opened_planned asked (Ok d) = record { text = plan_text (model_of d) asked; status = Passed }
opened_planned asked (Err line) = record { text = line; status = Refused }

-- A session by its bytes: as `run` refuses it, and then for a flaw, or the plan of its description. Its script isn't
-- looked at.
abbrev pub planned_of : Asked → List AdapterKind → (session : List ℕ) → Planned
planned_of asked kinds bytes = opened_planned asked (unflawed (opening_of bytes kinds))

-- the whole text was told with its status, or a front of it
abbrev pub TellsPlan : Planned → Status → (old new : Option (List ℕ)) → Type 0
TellsPlan p status old new = Tells status p.status old new p.text

-- passed where its text was written
abbrev pub status_of : {T E : Type 0} → (written : Result T E) → Status
status_of (Ok x) = Passed
status_of (Err e) = SinkFault
