-- What a list of judged flaws has: each flaw names what is there.
use Rattle.std.proofs.Common.{List, All, filter, map}
use Rattle.std.proofs.lemmas.List.Elements.{All-filter, All-map}
use Rattle.rl_model.specs.Rows.{ChipData}
use Rattle.rl_map.specs.Layout.{LayoutData}
use Rattle.rl_flaw.specs.Flaws.{IsFlawOf}
use Rattle.rl_desc.specs.Data.{DescData}
use Rattle.rl_grade.specs.declared.grade.Graded.{Graded}
use Rattle.rl_grade_report.specs.declared.verdict.Judged.{Judged}
use Rattle.rl_grade_report.specs.declared.verdict.Verdict.{Verdict}
use Rattle.rl_grade_report.specs.Judging.{judged_by}
use Rattle.rl_grade_report.specs.Verdict.{AreJudged, flaws_with, has_verdict}
use Rattle.rl_grade_report.specs.Waivers.{RowData}

pub judged_are : (d : DescData) (waivers : List RowData) (graded : List Graded) → All (λ g. IsFlawOf d.chip d.layout g.flaw) graded
    → AreJudged d.chip d.layout (map (judged_by d waivers) graded)
judged_are d waivers graded h = All-map (λ (j : Judged). IsFlawOf d.chip d.layout j.flaw) (judged_by d waivers) graded h

pub flaws_are : (c : ChipData) (l : LayoutData) (verdict : Verdict) (judged : List Judged) → AreJudged c l judged
    → All (IsFlawOf c l) (flaws_with verdict judged)
flaws_are c l verdict judged h =
    All-map (IsFlawOf c l) (λ (j : Judged). j.flaw) (filter (λ (j : Judged). has_verdict verdict j) judged)
    (All-filter (λ (j : Judged). has_verdict verdict j) (λ (j : Judged). IsFlawOf c l j.flaw) judged h)
