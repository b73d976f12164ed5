use Rattle.rl_session_laws.proofs.PlainLaws.{laws}
use Rattle.rl_session_laws.proofs.PlainSession.{log_of_desc}
use Rattle.rl_session_laws.proofs.plain_law.opened_log_is_plain.Goals as goal

pub returns : goal.returns
returns c = log_of_desc laws
