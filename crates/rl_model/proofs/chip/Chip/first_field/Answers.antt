use Rattle.rl_model.specs.declared.rows.RegRow.{RegRow}
use Rattle.rl_model.proofs.Reading.{read_at, sound_as}
use Rattle.rl_model.proofs.chip.Chip.first_field.Goals as goal

pub returns-clause-value : goal.returns-clause-value
returns-clause-value c = read_at (λ (r : RegRow). r.first) c.args.self.now.regs c.args.reg c.index.result.now c.requires (rw (← c.self.view_is) c.index.ensures)

pub returns-clause-sound : goal.returns-clause-sound
returns-clause-sound c = sound_as _ _ c.self.view_is c.self.invariant.0
