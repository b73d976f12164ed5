-- What can be said of a flaw that was tried: the event that finds it, or a verdict where there is none.
use Rattle.std.specs.Prelude.{ℕ, ◌&&◌, Bool, true, false, List, map, filter, All, codes, is_ok, Result, Ok, Err}
use Rattle.rl_model.specs.Rows.{ChipData}
use Rattle.rl_map.specs.Layout.{LayoutData}
use Rattle.rl_flaw.specs.declared.flaw.Flaw.{Flaw}
use Rattle.rl_flaw.specs.Flaws.{IsFlawOf}
use Rattle.rl_grade.specs.declared.seen.Find.{Find}
use Rattle.rl_grade_report.specs.declared.verdict.Judged.{Judged}
use Rattle.rl_grade_report.specs.declared.verdict.Verdict.{Verdict}
use Rattle.rl_grade_report.specs.declared.verdict.Verdict.TheVariants.{Missed, Hidden, Waived}

-- what each flaw names is there
abbrev pub AreJudged : ChipData → LayoutData → List Judged → Type 0
AreJudged c l judged = All (λ j. IsFlawOf c l j.flaw) judged

-- ---- those of one verdict

abbrev pub is_verdict : Verdict → Verdict → Bool
is_verdict Missed Missed = true
is_verdict Hidden Hidden = true
is_verdict Waived Waived = true
is_verdict one other = false

abbrev pub is_said : Verdict → Result Find Verdict → Bool
is_said verdict (Ok find) = false
is_said verdict (Err own) = is_verdict verdict own

-- this is said of the flaw
abbrev pub has_verdict : Verdict → Judged → Bool
has_verdict verdict j = is_said verdict j.found

-- it is waived, and found all the same
abbrev pub is_needless : Judged → Bool
is_needless j = j.waived && is_ok j.found

abbrev pub flaws_with : Verdict → List Judged → List Flaw
flaws_with verdict judged = map (λ j. j.flaw) (filter (λ j. has_verdict verdict j) judged)

-- what stands before the flaws of which this is said
abbrev pub lead_of : Verdict → List ℕ
lead_of Missed = codes "; missed: "
lead_of Hidden = codes "; hidden: "
lead_of Waived = codes "; waived: "
