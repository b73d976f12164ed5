-- What is written of shares that are added, and the status.
use Rattle.std.specs.Prelude.{ℕ, if◌then◌else◌, List, [], ◌∷◌, codes, decimal, Option, Result, Ok, Err}
use Rattle.rl_log.specs.declared.status.Status.{Status}
use Rattle.rl_log.specs.declared.status.Status.TheVariants.{Passed, Found}
use Rattle.rl_report.specs.Pieces.{joined}
use Rattle.rl_grade.specs.declared.grade.Share.{Share}
use Rattle.rl_grade_report.specs.declared.shares.Unfit.{Unfit}
use Rattle.rl_grade_report.specs.declared.shares.Unfit.TheVariants.{NoShare, NoHead, Cut, OfAnother, Twice, Lacking}
use Rattle.rl_grade_report.specs.declared.totals.Totals.{Totals}
use Rattle.rl_grade_report.specs.Grading.{Grading, refused_with}
use Rattle.rl_grade_report.specs.Shares.{and_then, shares_of}
use Rattle.rl_grade_report.specs.Sums.{sums_in}
use Rattle.rl_grade_report.specs.Totals.{end_text, is_below}

-- ---- why they aren't added

abbrev pub of_share : Share → (said : List ℕ) → List ℕ
of_share share said =
    joined (codes "refused shares: share " ∷ decimal share.first ∷ codes "/" ∷ decimal share.every ∷ said ∷ [])

abbrev pub refusal_text : Unfit → List ℕ
refusal_text NoShare = codes "refused shares: there is none\n"
refusal_text (NoHead line) =
    joined (codes "refused shares: line " ∷ decimal line ∷ codes ": no share begins here\n" ∷ [])
refusal_text (Cut share) = of_share share (codes " is cut\n")
refusal_text (OfAnother share) = of_share share (codes " is of another grading\n")
refusal_text (Twice share) = of_share share (codes " came twice\n")
refusal_text (Lacking share) = of_share share (codes " is lacking\n")

-- ---- the last line of the whole

-- passed unless fewer were found than the bound
abbrev pub sums_status : (bound : Option ℕ) → (sums : Totals) → Status
sums_status bound sums = if is_below bound sums then Found else Passed

abbrev pub sums_told : (bound : Option ℕ) → Result Totals Unfit → Grading
sums_told bound (Ok sums) = record { text = end_text sums; status = sums_status bound sums }
sums_told bound (Err why) = refused_with (refusal_text why)

-- the sums of the shares of a text
abbrev pub sums_of : (text : List ℕ) → Result Totals Unfit
sums_of text = and_then (shares_of text) sums_in

-- what is written of a text, and the status
abbrev pub added_of : (bound : Option ℕ) → (text : List ℕ) → Grading
added_of bound text = sums_told bound (sums_of text)
