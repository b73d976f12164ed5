use Rattle.rl_detect_laws.proofs.Sessions.{lone_line_is_played}
use Rattle.rl_detect_laws.proofs.session_law.lone_line_is_played.Goals as goal

pub returns : goal.returns
returns c = lone_line_is_played
