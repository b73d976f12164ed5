use Rattle.rl_model.proofs.ChipSound.{each_chip_sound}
use Rattle.rl_session_laws.proofs.sound_law.each_chip_is_sound.Goals as goal

pub returns : goal.returns
returns c = each_chip_sound
