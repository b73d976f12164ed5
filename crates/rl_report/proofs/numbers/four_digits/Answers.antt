use Rattle.rl_report.proofs.NumberLemmas.{four_at}
use Rattle.rl_report.proofs.numbers.four_digits.Goals as goal

pub returns-clause-value : goal.returns-clause-value
returns-clause-value c = four_at c.args.n c.requires
