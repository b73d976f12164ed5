use Rattle.rl_detect_laws.proofs.Errors.{shared_error_is_found}
use Rattle.rl_detect_laws.proofs.law.shared_error_is_found.Goals as goal

pub returns : goal.returns
returns c = shared_error_is_found
