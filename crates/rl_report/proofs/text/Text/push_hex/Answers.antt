use Rattle.std.proofs.Common.{◌++◌, ap, ◌∙◌}
use Rattle.rl_policy.proofs.TextLemmas.{digits_are}
use Rattle.rl_report.specs.Numbers.{padded}
use Rattle.rl_report.proofs.text.Text.push_hex.Goals as goal

pub returns-clause-text : goal.returns-clause-text
unfolding padded
returns-clause-text c = c.push_padded.ensures.text ∙ ap (λ l. c.args.self.now ++ l) (digits_are c.digit_count.result c.args.n c.digit_count.ensures.value)
