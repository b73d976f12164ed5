use Rattle.rl_grade.proofs.Complete.{complete}
use Rattle.rl_grade.proofs.law.none_is_left_out.Goals as goal

pub returns : goal.returns
returns c = complete
