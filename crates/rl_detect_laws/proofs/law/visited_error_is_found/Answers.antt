use Rattle.rl_detect_laws.proofs.Errors.{visited_error_is_found}
use Rattle.rl_detect_laws.proofs.law.visited_error_is_found.Goals as goal

pub returns : goal.returns
returns c = visited_error_is_found
