-- That no script finds a flaw whose changes no check compares, nor one that is silent.
use Rattle.std.specs.Prelude.{◌≡◌, ℕ, true, false, List, All, None, Some}
use Rattle.rl_bus.specs.Standing.{Standing}
use Rattle.rl_desc.specs.Data.{DescData}
use Rattle.rl_flaw.specs.declared.flaw.Flaw.{Flaw}
use Rattle.rl_flaw.specs.Flaws.{IsFlawOf}
use Rattle.rl_session.specs.Judged.{first_world}
use Rattle.rl_grade.specs.declared.job.Task.{Task}
use Rattle.rl_grade.specs.Alike.{without_flaws}
use Rattle.rl_grade.specs.Find.{all_seen, first_find, seen_of}
use Rattle.rl_grade.specs.Heard.{Heard}
use Rattle.rl_grade.specs.Hidden.{is_hidden}
use Rattle.rl_grade.specs.Job.{heard_by}
use Rattle.rl_grade.specs.Place.{with_flaw}
use Rattle.rl_grade.specs.Registers.{register_with}
use Rattle.rl_grade.specs.Together.{IsSoundDesc, is_of_register}
use Rattle.rl_grade.specs.Unchecked.{is_unchecked}

-- it is one of the description, and no check compares what it changes
pub record IsUncheckedIn (d : DescData) (flaw : Flaw) : Type 0 where
  pub sound : IsSoundDesc d
  pub one : IsFlawOf d.chip d.layout flaw
  pub unchecked : is_unchecked d.chip flaw ≡ true

-- an event of the register names no field, and ends by no bus error
abbrev pub ShowsNothingOf : DescData → (reg : ℕ) → Heard → Type 0
ShowsNothingOf d reg h =
    is_of_register d.chip reg h.told.event ≡ true → seen_of h.told.event ≡ record { differ = 0; error = false }

-- no event of the flaw's register shows anything
abbrev pub UncheckedShowsNothing : Type 0
UncheckedShowsNothing =
    (d : DescData) (flaw : Flaw) (reg : ℕ) (adapters : List Standing) (tasks : List Task) → IsUncheckedIn d flaw
    → register_with d.chip flaw ≡ Some reg
    → All (ShowsNothingOf d reg) (heard_by (first_world (with_flaw d flaw) adapters) tasks)

-- and each event shows what the one of its number does without the flaw: the same fields, and the same bus errors
abbrev pub UncheckedShowsTheSame : Type 0
UncheckedShowsTheSame =
    (d : DescData) (flaw : Flaw) (adapters : List Standing) (tasks : List Task) → IsUncheckedIn d flaw
    → all_seen (heard_by (first_world (with_flaw d flaw) adapters) tasks)
    ≡ all_seen (heard_by (first_world (without_flaws d) adapters) tasks)

-- ---- a hidden flaw

pub record IsHiddenIn (d : DescData) (flaw : Flaw) : Type 0 where
  pub sound : IsSoundDesc d
  pub one : IsFlawOf d.chip d.layout flaw
  pub hidden : is_hidden d.chip d.layout flaw ≡ true

-- no script finds it
abbrev pub HiddenIsNotFound : Type 0
HiddenIsNotFound =
    (d : DescData) (flaw : Flaw) (adapters : List Standing) (tasks : List Task) → IsHiddenIn d flaw
    → first_find (all_seen (heard_by (first_world (without_flaws d) adapters) tasks))
    (heard_by (first_world (with_flaw d flaw) adapters) tasks) ≡ None
