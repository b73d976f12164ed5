use Rattle.std.proofs.Common.{length, refl, subst}
use Rattle.std.proofs.lemmas.Option.{slice_get_read}
use Rattle.rl_model.specs.Rows.{ChipData}
use Rattle.rl_model.specs.Chip.{IsSound}
use Rattle.rl_model.specs.declared.rows.MemRow.{MemRow}
use Rattle.rl_model.specs.declared.rows.RegRow.{RegRow}
use Rattle.rl_model.proofs.Reading.{read_at, sound_as}
use Rattle.rl_model.proofs.chip.Chip.bytes.Goals as goal

pub returns-in-Reg-clause-range : goal.returns-in-Reg-clause-range
returns-in-Reg-clause-range c =
    let chip = c.args.self.now in
    let sound = subst (λ (x : ChipData). IsSound x) c.self.view_is c.self.invariant.0 in
    let has = rw c.in-Reg.is at c.requires in
    let at = slice_get_read chip.regs (length chip.regs) c.in-Reg.reg c.index.result.now refl has (rw (← c.self.view_is) c.index.ensures) in
    let fits = sound.each_reg c.in-Reg.reg c.index.result.now at in (fits.0, fits.1)

pub returns-in-Mem-clause-range : goal.returns-in-Mem-clause-range
returns-in-Mem-clause-range c =
    let chip = c.args.self.now in
    let sound = subst (λ (x : ChipData). IsSound x) c.self.view_is c.self.invariant.0 in
    let has = rw c.in-Mem.is at c.requires in
    let row = c.index-in-Mem.result.now in
    let at = slice_get_read chip.mems (length chip.mems) c.in-Mem.mem row refl has (rw (← c.self.view_is) c.index-in-Mem.ensures) in
    let fits = sound.each_mem c.in-Mem.mem row at in (fits.0, fits.1)

pub returns-in-Reg-clause-value : goal.returns-in-Reg-clause-value
returns-in-Reg-clause-value c =
    rw c.in-Reg.is
    (read_at (λ (r : RegRow). r.bytes) c.args.self.now.regs c.in-Reg.reg c.index.result.now (rw c.in-Reg.is at c.requires) (rw (← c.self.view_is) c.index.ensures))

pub returns-in-Mem-clause-value : goal.returns-in-Mem-clause-value
returns-in-Mem-clause-value c =
    rw c.in-Mem.is
    (read_at (λ (m : MemRow). m.bytes) c.args.self.now.mems c.in-Mem.mem c.index-in-Mem.result.now (rw c.in-Mem.is at c.requires) (rw (← c.self.view_is) c.index-in-Mem.ensures))

pub returns-in-Reg-clause-sound : goal.returns-in-Reg-clause-sound
returns-in-Reg-clause-sound c = sound_as _ _ c.self.view_is c.self.invariant.0

pub returns-in-Mem-clause-sound : goal.returns-in-Mem-clause-sound
returns-in-Mem-clause-sound c = sound_as _ _ c.self.view_is c.self.invariant.0
