use Rattle.rl_detect_laws.proofs.Sessions.{session_finds_kept_reset, session_finds_wrong_reset}
use Rattle.rl_detect_laws.proofs.session_law.session_finds_wrong_reset.Goals as goal

pub returns : goal.returns
returns c = record { any = session_finds_wrong_reset; kept = session_finds_kept_reset }
