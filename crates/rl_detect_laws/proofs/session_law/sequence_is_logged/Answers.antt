use Rattle.rl_detect_laws.proofs.Logged.{sequence_is_logged}
use Rattle.rl_detect_laws.proofs.session_law.sequence_is_logged.Goals as goal

pub returns : goal.returns
returns c = sequence_is_logged
