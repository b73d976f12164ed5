use Rattle.rl_grade_report.proofs.RowSingles.{singles_writable}
use Rattle.rl_grade_report.proofs.row_law.single_flaws_are_writable.Goals as goal

pub returns : goal.returns
returns c = singles_writable
