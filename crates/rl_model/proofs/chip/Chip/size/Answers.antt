use Rattle.std.proofs.Common.{length, refl, subst}
use Rattle.std.proofs.lemmas.Option.{slice_get_read}
use Rattle.rl_model.specs.Rows.{ChipData}
use Rattle.rl_model.specs.Chip.{IsSound}
use Rattle.rl_model.proofs.ChipLaws.{size_fits}
use Rattle.rl_model.specs.declared.rows.MemRow.{MemRow}
use Rattle.rl_model.proofs.Reading.{read_at, sound_as}
use Rattle.rl_model.proofs.chip.Chip.size.Goals as goal

pub returns-clause-range : goal.returns-clause-range
returns-clause-range c =
    let P : ChipData → Type 0 = IsSound in
    let chip = c.args.self.now in
    let sound = subst P c.self.view_is c.self.invariant.0 in
    let row = c.index.result.now in
    let at = slice_get_read chip.mems (length chip.mems) c.args.mem row refl c.requires (rw (← c.self.view_is) c.index.ensures) in
    size_fits chip sound c.args.mem row at

pub returns-clause-value : goal.returns-clause-value
returns-clause-value c = read_at (λ (m : MemRow). m.size) c.args.self.now.mems c.args.mem c.index.result.now c.requires (rw (← c.self.view_is) c.index.ensures)

pub returns-clause-sound : goal.returns-clause-sound
returns-clause-sound c = sound_as _ _ c.self.view_is c.self.invariant.0
