use Rattle.rl_detect_laws.proofs.StuckReset.{stuck_reset_is_named}
use Rattle.rl_detect_laws.proofs.law.stuck_reset_is_named.Goals as goal

pub returns : goal.returns
returns c = stuck_reset_is_named
