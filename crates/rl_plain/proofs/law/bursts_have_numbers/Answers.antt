use Rattle.rl_plain.proofs.PlainCourses.{bursts_have_numbers}
use Rattle.rl_plain.proofs.law.bursts_have_numbers.Goals as goal

pub returns : goal.returns
returns c = bursts_have_numbers
