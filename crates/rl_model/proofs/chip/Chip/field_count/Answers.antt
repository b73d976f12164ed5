use Rattle.std.proofs.Common.{length, refl, subst}
use Rattle.std.proofs.lemmas.Option.{slice_get_read}
use Rattle.rl_model.specs.Rows.{ChipData}
use Rattle.rl_model.specs.Chip.{IsSound}
use Rattle.rl_model.specs.declared.rows.RegRow.{RegRow}
use Rattle.rl_model.proofs.Reading.{read_at, sound_as}
use Rattle.rl_model.proofs.chip.Chip.field_count.Goals as goal

pub returns-clause-few : goal.returns-clause-few
returns-clause-few c =
    (subst (λ (x : ChipData). IsSound x) c.self.view_is c.self.invariant.0).few_fields c.args.reg c.index.result.now
    (slice_get_read c.args.self.now.regs (length c.args.self.now.regs) c.args.reg c.index.result.now refl c.requires (rw (← c.self.view_is) c.index.ensures))

pub returns-clause-value : goal.returns-clause-value
returns-clause-value c = read_at (λ (r : RegRow). r.count) c.args.self.now.regs c.args.reg c.index.result.now c.requires (rw (← c.self.view_is) c.index.ensures)

pub returns-clause-sound : goal.returns-clause-sound
returns-clause-sound c = sound_as _ _ c.self.view_is c.self.invariant.0
