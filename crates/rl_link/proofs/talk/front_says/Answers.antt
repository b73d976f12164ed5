use Rattle.std.proofs.Common.{take, ap, ◌∙◌}
use Rattle.rl_report.proofs.LineLemmas.{line_front}
use Rattle.rl_link.specs.Answers.{said_in}
use Rattle.rl_link.proofs.talk.front_says.Goals as goal

pub returns : goal.returns
returns c = c.says.ensures ∙ ap said_in (ap (take c.args.len) c.bytes.ensures.bytes ∙ line_front c.args.held.now c.args.len c.requires.is)
