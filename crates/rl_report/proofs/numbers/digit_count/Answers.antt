use Rattle.rl_report.proofs.ShiftLemmas.{many_digits}
use Rattle.rl_report.proofs.numbers.digit_count.Goals as goal

pub returns-clause-value : goal.returns-clause-value
returns-clause-value c = many_digits c.args.n c.ranges.n.fits c.if-n-lt16.false
