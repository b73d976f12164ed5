use Rattle.rl_model.proofs.Reading.{sound_as}
use Rattle.rl_model.proofs.chip.Chip.fields.Goals as goal

pub returns-clause-sound : goal.returns-clause-sound
returns-clause-sound c = sound_as _ _ c.self.view_is c.self.invariant.0
