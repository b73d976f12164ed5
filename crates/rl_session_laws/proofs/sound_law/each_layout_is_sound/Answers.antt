use Rattle.rl_session_laws.proofs.Layouts.{each_layout_sound}
use Rattle.rl_session_laws.proofs.sound_law.each_layout_is_sound.Goals as goal

pub returns : goal.returns
returns c = each_layout_sound
