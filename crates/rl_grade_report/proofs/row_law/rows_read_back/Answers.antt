use Rattle.rl_grade_report.proofs.RowLemmas.{row_reads_back, rows_read_back, found_rows_read_back}
use Rattle.rl_grade_report.proofs.row_law.rows_read_back.Goals as goal

pub returns : goal.returns
returns c = record { one = row_reads_back; verdict = rows_read_back; found = found_rows_read_back }
