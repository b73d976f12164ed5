use Rattle.rl_detect_laws.proofs.Sessions.{session_finds_bit_flaw}
use Rattle.rl_detect_laws.proofs.session_law.session_finds_bit_flaw.Goals as goal

pub returns : goal.returns
returns c = session_finds_bit_flaw
