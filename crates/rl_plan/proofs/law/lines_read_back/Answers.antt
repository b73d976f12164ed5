use Rattle.rl_plan.proofs.Reading.{lines_read_back}
use Rattle.rl_plan.proofs.law.lines_read_back.Goals as goal

pub returns : goal.returns
returns c = lines_read_back
