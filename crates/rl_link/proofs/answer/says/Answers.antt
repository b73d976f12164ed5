use Rattle.std.proofs.Common.{ap, ◌∙◌}
use Rattle.rl_link.specs.Answers.{said_in, said_by}
use Rattle.rl_link.proofs.answer.says.Goals as goal

pub returns : goal.returns
unfolding said_in
returns c = c.said_by.ensures ∙ ap said_by c.bare.ensures
