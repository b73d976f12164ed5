-- That the sums of the shares of a grading are the totals of the whole.
use Rattle.std.specs.Prelude.{◌≡◌, ◌<◌, ◌≤◌, List, All, Ok}
use Rattle.rl_desc.specs.Data.{DescData}
use Rattle.rl_grade.specs.declared.grade.Share.{Share}
use Rattle.rl_grade_report.specs.declared.asked.Asked.{Asked}
use Rattle.rl_grade_report.specs.declared.shares.Part.{Part}
use Rattle.rl_grade_report.specs.declared.totals.Totals.{Totals}
use Rattle.rl_grade_report.specs.Asked.{whole}
use Rattle.rl_grade_report.specs.Grading.{Base, all_judged}
use Rattle.rl_grade_report.specs.Sums.{sums_in}
use Rattle.rl_grade_report.specs.Totals.{totals_of}

-- what a grading counts of a share of the flaws
abbrev pub share_totals : Asked → DescData → Base → Share → Totals
share_totals asked d base share = totals_of (all_judged (record asked { share = share }) d base)

-- a share K of N, with K from 1 to N, and with what the grading counts of it
pub record IsCounted (asked : Asked) (d : DescData) (base : Base) (part : Part) : Type 0 where
  pub from_one : 0 < part.head.share.first
  pub up_to_n : part.head.share.first ≤ part.head.share.every
  pub totals : part.totals ≡ share_totals asked d base part.head.share

-- Where such shares are added, the sums are what the grading counts of all flaws.
abbrev pub SumsAreOfAll : Type 0
SumsAreOfAll =
    (asked : Asked) (d : DescData) (base : Base) (parts : List Part) (sums : Totals)
    → All (IsCounted asked d base) parts → sums_in parts ≡ Ok sums → sums ≡ share_totals asked d base whole
