use Rattle.rl_detect_laws.proofs.NthError.{nth_error_is_found}
use Rattle.rl_detect_laws.proofs.law.nth_error_is_found.Goals as goal

pub returns : goal.returns
returns c = nth_error_is_found
