use Rattle.rl_detect_laws.proofs.Sessions.{session_finds_error}
use Rattle.rl_detect_laws.proofs.session_law.session_finds_error.Goals as goal

pub returns : goal.returns
returns c = session_finds_error
