-- Flaws that are tried at once, of each register one at most, and answers that are known.
use Rattle.std.specs.Prelude.{◌≡◌, ℕ, ◌<◌, List, [], ◌∷◌, length, drop, All, Option, Some, None, option_map}
use Rattle.std.specs.Prelude.{slice_index_or, slice_set}
use Rattle.std.specs.List.{filter_map, flat_map}
use Rattle.rl_flaw.specs.declared.flaw.Flaw.{Flaw}
use Rattle.rl_flaw.specs.declared.flaw.Flaw.TheVariants.{ErrorNth}
use Rattle.rl_desc.specs.Data.{DescData}
use Rattle.rl_model.specs.Rows.{ChipData}
use Rattle.rl_session.specs.Judged.{first_world}
use Rattle.rl_grade.specs.declared.grade.Graded.{Graded}
use Rattle.rl_grade.specs.declared.job.Task.{Task}
use Rattle.rl_grade.specs.declared.place.Place.{Place}
use Rattle.rl_grade.specs.declared.seen.Find.{Find}
use Rattle.rl_grade.specs.declared.seen.Seen.{Seen}
use Rattle.rl_grade.specs.Adapters.{fresh_standings}
use Rattle.rl_grade.specs.Alike.{without_flaws}
use Rattle.rl_grade.specs.Find.{all_seen}
use Rattle.rl_grade.specs.Job.{heard_by}
use Rattle.rl_grade.specs.Place.{flaws_at}
use Rattle.rl_grade.specs.Share.{graded_by}
use Rattle.rl_grade.specs.Together.{register_with}

-- ---- what is shown without a flaw

-- it is what the tasks show from the first state of the description without flaws, over fresh adapters
abbrev pub IsShown : DescData → List Task → List Seen → Type 0
IsShown d tasks shown = shown ≡ all_seen (heard_by (first_world (without_flaws d) fresh_standings) tasks)

-- ---- the flaws of places

abbrev pub flaws_of_places : DescData → (items : ℕ) → List Place → List Flaw
flaws_of_places d items places = flat_map (flaws_at d items) places

-- ---- one flaw of each register

-- the flaw of a number, and any past the end
abbrev pub flaw_at : List Flaw → ℕ → Flaw
flaw_at flaws number = slice_index_or flaws number (ErrorNth 0)

pub record IsChosen (c : ChipData) (flaws : List Flaw) (reg number : ℕ) : Type 0 where
  pub inside : number < length flaws
  pub register : register_with c (flaw_at flaws number) ≡ Some reg

-- of each register, by its number, the number of one of its flaws, or none
pub record AreChosen (c : ChipData) (flaws : List Flaw) (chosen : List (Option ℕ)) : Type 0 where
  pub size : length chosen ≡ length c.regs
  pub each : (reg number : ℕ) → slice_index_or chosen reg None ≡ Some number → IsChosen c flaws reg number

abbrev pub chosen_flaws : List Flaw → List (Option ℕ) → List Flaw
chosen_flaws flaws chosen = filter_map (option_map (flaw_at flaws)) chosen

-- ---- answers

-- each answer is that of its flaw alone
abbrev pub AreAnswers : DescData → List Task → (shown : List Seen) → List Graded → Type 0
AreAnswers d tasks shown graded = All (λ it. it ≡ graded_by d tasks shown it.flaw) graded

-- answers by the numbers of their flaws, where they are known
pub record AreKnown (d : DescData) (tasks : List Task) (shown : List Seen) (flaws : List Flaw)
    (known : List (Option Graded))
    : Type 0 where
  pub size : length known ≡ length flaws
  pub each : (number : ℕ) (it : Graded) → slice_index_or known number None ≡ Some it
      → it ≡ graded_by d tasks shown (flaw_at flaws number)

-- the find of each register that has a chosen flaw is this flaw's answer
abbrev pub AreFound : DescData → List Task → (shown : List Seen) → List Flaw → (chosen : List (Option ℕ))
    → (found : List (Option Find)) → Type 0
AreFound d tasks shown flaws chosen found =
    (reg number : ℕ) → slice_index_or chosen reg None ≡ Some number
    → slice_index_or found reg None ≡ (graded_by d tasks shown (flaw_at flaws number)).found

-- the answer of a chosen flaw, by the find of its register
abbrev pub with_answer : List Flaw → Option ℕ → Option Find → List (Option Graded) → List (Option Graded)
with_answer flaws None found known = known
with_answer flaws (Some number) found known =
    slice_set known number (Some (record { flaw = flaw_at flaws number; found = found }))

-- those of the chosen flaws, register by register
unfoldable pub with_answers : List Flaw → (chosen : List (Option ℕ)) → (found : List (Option Find))
    → List (Option Graded)
    → List (Option Graded)
with_answers flaws [] found known = known
with_answers flaws (number ∷ chosen) found known =
    with_answers flaws chosen (drop 1 found) (with_answer flaws number (slice_index_or found 0 None) known)
