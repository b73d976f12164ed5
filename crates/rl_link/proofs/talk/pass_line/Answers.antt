use Rattle.std.proofs.Common.{◌∙◌, arith}
use Rattle.rl_report.proofs.LineLemmas.{line_behind}
use Rattle.rl_link.proofs.talk.pass_line.Goals as goal

pub returns-clause-held : goal.returns-clause-held
returns-clause-held c = c.pass.ensures ∙ line_behind _ _ c.requires.is
