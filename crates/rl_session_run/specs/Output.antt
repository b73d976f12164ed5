-- What a sink was given of a session and the adapters' standings afterwards, against what is judged of it.
use Rattle.std.specs.Prelude.{◌≡◌, ℕ, List, map, true, Option}
use Rattle.rl_bus.specs.Standing.{Standing}
use Rattle.rl_desc.specs.Data.{DescData}
use Rattle.rl_log.specs.declared.status.Status.{Status}
use Rattle.rl_log.specs.Log.{lines_text}
use Rattle.rl_log.specs.Statuses.{is_complete}
use Rattle.rl_log.specs.Telling.{Tells}
use Rattle.rl_session.specs.Judged.{Judged, first_world}

-- ---- what was written of it

-- the whole text, with its status, and the adapters stand so;
-- where it didn't come to its last line, a front of the text
pub record IsJudged (j : Judged) (status : Status) (old new : Option (List ℕ)) (adapters : List Standing) : Type 0 where
  pub tells : Tells status j.status old new j.text
  pub adapters_are : is_complete status ≡ true → adapters ≡ j.adapters

-- what a sink was told, and how the adapters stand
pub record Output : Type 0 where
  pub text : Option (List ℕ)
  pub adapters : List Standing

-- a sink that may tell its bytes, and adapters as their callers see them
abbrev pub output_of : {K A : Type 0} → (K → Option (List ℕ)) → (A → Standing) → K → List A → Output
output_of written standing sink adapters = record { text = written sink; adapters = map standing adapters }

-- a run from one output to the other wrote what is judged of the adapters as they stood, and answers its status
abbrev pub WritesJudged : (List Standing → Judged) → Status → (before after : Output) → Type 0
WritesJudged judge status before after = IsJudged (judge before.adapters) status before.text after.text after.adapters

-- the log of the lines of a script, from the first state of a description on
abbrev pub run_lines : DescData → List Standing → List (List ℕ) → List ℕ
run_lines desc adapters lines = lines_text 1 (first_world desc adapters) lines
