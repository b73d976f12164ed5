-- What is said of a flaw that was tried, where some are waived.
use Rattle.std.specs.Prelude.{Bool, if◌then◌else◌, List, Option, Some, None, Result, Ok, Err}
use Rattle.rl_flaw.specs.declared.flaw.Flaw.{Flaw}
use Rattle.rl_desc.specs.Data.{DescData}
use Rattle.rl_grade.specs.declared.grade.Graded.{Graded}
use Rattle.rl_grade.specs.declared.seen.Find.{Find}
use Rattle.rl_grade.specs.Hidden.{is_hidden}
use Rattle.rl_grade_report.specs.declared.verdict.Judged.{Judged}
use Rattle.rl_grade_report.specs.declared.verdict.Verdict.{Verdict}
use Rattle.rl_grade_report.specs.declared.verdict.Verdict.TheVariants.{Missed, Hidden, Waived}
use Rattle.rl_grade_report.specs.Row.{flaw_row}
use Rattle.rl_grade_report.specs.Waivers.{RowData, has_text}

-- one of these rows is, byte for byte, the flaw's
abbrev pub is_waived : DescData → List RowData → Flaw → Bool
is_waived d rows flaw = has_text rows (flaw_row d.chip d.layout flaw)

-- waived where a row is its; hidden where `is_hidden` says that no script finds it; and else missed
abbrev pub verdict_of : DescData → (waived : Bool) → Flaw → Verdict
verdict_of d waived flaw = if waived then Waived else (if is_hidden d.chip d.layout flaw then Hidden else Missed)

-- the verdict counts where there is no find
abbrev pub find_or : Option Find → Verdict → Result Find Verdict
find_or (Some find) verdict = Ok find
find_or None verdict = Err verdict

abbrev pub judged_by : DescData → (waivers : List RowData) → Graded → Judged
judged_by d waivers g = record {
  flaw = g.flaw;
  found = find_or g.found (verdict_of d (is_waived d waivers g.flaw) g.flaw);
  waived = is_waived d waivers g.flaw;
}
