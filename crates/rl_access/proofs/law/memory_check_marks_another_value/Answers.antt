use Rattle.rl_access.proofs.Beliefs.{location_marks}
use Rattle.rl_access.proofs.law.memory_check_marks_another_value.Goals as goal

pub returns : goal.returns
returns c = location_marks
