use Rattle.rl_report.proofs.LineLemmas.{line_front}
use Rattle.rl_link.proofs.held.first_line.Goals as goal

pub returns-in-Some : goal.returns-in-Some
returns-in-Some c = line_front _ _ c.in-Some.ensures.some.0
