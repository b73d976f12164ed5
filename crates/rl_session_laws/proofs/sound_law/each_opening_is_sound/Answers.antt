use Rattle.rl_session_laws.proofs.Openings.{each_opening_sound}
use Rattle.rl_session_laws.proofs.sound_law.each_opening_is_sound.Goals as goal

pub returns : goal.returns
returns c = each_opening_sound
