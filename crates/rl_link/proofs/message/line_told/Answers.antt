use Rattle.std.proofs.Common.{take, ap, ◌∙◌}
use Rattle.rl_link.proofs.TextLemmas.{take_most}
use Rattle.rl_link.proofs.message.line_told.Goals as goal

pub returns : goal.returns
returns c = take_most _ 80 _ c.min.ensures ∙ ap (take 80) c.first_line-line.ensures
