use Rattle.rl_access.proofs.Beliefs.{check_names}
use Rattle.rl_access.proofs.law.check_names_differing_fields.Goals as goal

pub returns : goal.returns
returns c = check_names
