use Rattle.rl_session_laws.proofs.Openings.{each_log_plain}
use Rattle.rl_session_laws.proofs.sound_law.each_log_is_plain.Goals as goal

pub returns : goal.returns
returns c = each_log_plain
