use Rattle.std.proofs.Common.{◌∙◌}
use Rattle.rl_report.proofs.LineLemmas.{searched}
use Rattle.rl_report.proofs.lines.line_len.Goals as goal

pub returns : goal.returns
returns c = c.unwrap_or.ensures ∙ searched _ _ c.memchr.ensures
