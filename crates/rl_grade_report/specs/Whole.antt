-- The flaws that a grading goes over, and that they are the single flaws of the description, each once.
use Rattle.std.specs.Prelude.{◌≢◌, ℕ, List, flat_map, All, AllPairs, Contains}
use Rattle.rl_model.specs.Chip.{IsSound}
use Rattle.rl_flaw.specs.declared.flaw.Flaw.{Flaw}
use Rattle.rl_desc.specs.Data.{DescData}
use Rattle.rl_grade.specs.declared.place.Place.{Place}
use Rattle.rl_grade.specs.Place.{IsPlaceIn, flaws_at}
use Rattle.rl_grade.specs.Single.{IsSingleAt}
use Rattle.rl_grade_report.specs.Places.{places_of}

-- those of these places, one place after another, where the session sends so many bus items
abbrev pub flaws_over : DescData → (items : ℕ) → List Place → List Flaw
flaws_over d items places = flat_map (flaws_at d items) places

-- those of all its places
abbrev pub all_flaws : DescData → (items : ℕ) → List Flaw
all_flaws d items = flaws_over d items (places_of d.chip)

-- the flaw is a single one of some register, field or memory of the description, or of the session
abbrev pub IsSingle : DescData → (items : ℕ) → Flaw → Type 0
IsSingle d items flaw = (place : Place) × IsPlaceIn d.chip place × IsSingleAt d items place flaw

-- each single flaw of a description is among them
abbrev pub EachIsGraded : Type 0
EachIsGraded =
    (d : DescData) (items : ℕ) (flaw : Flaw) → IsSound d.chip → IsSingle d items flaw
    → Contains (all_flaws d items) flaw

-- and no other flaw is
abbrev pub NoOtherIsGraded : Type 0
NoOtherIsGraded = (d : DescData) (items : ℕ) → IsSound d.chip → All (IsSingle d items) (all_flaws d items)

-- none stands there twice
abbrev pub NoneIsGradedTwice : Type 0
NoneIsGradedTwice = (d : DescData) (items : ℕ) → IsSound d.chip → AllPairs (λ a b. a ≢ b) (all_flaws d items)
