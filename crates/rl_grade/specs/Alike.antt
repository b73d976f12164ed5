-- That a silent flaw changes no event of any script, and no log.
use Rattle.std.specs.Prelude.{◌≡◌, ℕ, true, List, [], None}
use Rattle.rl_bus.specs.Standing.{Standing}
use Rattle.rl_desc.specs.Data.{DescData}
use Rattle.rl_model.specs.Chip.{IsSound}
use Rattle.rl_flaw.specs.declared.flaw.Flaw.{Flaw}
use Rattle.rl_flaw.specs.Flaws.{IsFlawOf}
use Rattle.rl_log.specs.Log.{Ending}
use Rattle.rl_session.specs.Judged.{first_ending, first_world}
use Rattle.rl_grade.specs.declared.job.Task.{Task}
use Rattle.rl_grade.specs.Find.{all_seen, first_find}
use Rattle.rl_grade.specs.Hidden.{is_silent}
use Rattle.rl_grade.specs.Job.{heard_by}
use Rattle.rl_grade.specs.Place.{with_flaw}

-- a description without flaws
abbrev pub without_flaws : DescData → DescData
without_flaws d = record { chip = d.chip; layout = d.layout; flaws = [] }

-- it is one of the description, and no script can show it
pub record IsSilentIn (d : DescData) (flaw : Flaw) : Type 0 where
  pub sound : IsSound d.chip
  pub one : IsFlawOf d.chip d.layout flaw
  pub silent : is_silent d.chip d.layout flaw ≡ true

-- what the tasks do with the flaw, from the first state on, is what they do without it
abbrev pub SilentChangesNoEvent : Type 0
SilentChangesNoEvent =
    (d : DescData) (flaw : Flaw) (adapters : List Standing) (tasks : List Task) → IsSilentIn d flaw
    → heard_by (first_world (with_flaw d flaw) adapters) tasks ≡ heard_by (first_world (without_flaws d) adapters) tasks

-- and so no script finds it
abbrev pub SilentIsNotFound : Type 0
SilentIsNotFound =
    (d : DescData) (flaw : Flaw) (adapters : List Standing) (tasks : List Task) → IsSilentIn d flaw
    → first_find (all_seen (heard_by (first_world (without_flaws d) adapters) tasks))
    (heard_by (first_world (with_flaw d flaw) adapters) tasks) ≡ None

-- ---- the log

-- the same text, and the same status and counts
pub record IsSameLog (x y : Ending) : Type 0 where
  pub text : y.text ≡ x.text
  pub status : y.status ≡ x.status
  pub counts : y.counts ≡ x.counts

-- The judged log of a script is the same with the flaw and without it.
abbrev pub SilentLeavesTheLog : Type 0
SilentLeavesTheLog =
    (d : DescData) (flaw : Flaw) (script : List ℕ) (adapters : List Standing) → IsSilentIn d flaw
    → IsSameLog (first_ending (without_flaws d) script adapters) (first_ending (with_flaw d flaw) script adapters)
