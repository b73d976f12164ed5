use Rattle.rl_detect_laws.proofs.Sessions.{session_finds_deaf_register}
use Rattle.rl_detect_laws.proofs.session_law.session_finds_deaf_register.Goals as goal

pub returns : goal.returns
returns c = session_finds_deaf_register
