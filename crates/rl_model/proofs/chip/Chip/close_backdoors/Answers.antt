use Rattle.rl_model.specs.Chip.{closed_mem, closed_reg}
use Rattle.rl_model.proofs.Backdoors.{masks_closed, sound_closed, written_back}
use Rattle.rl_model.proofs.chip.Chip.close_backdoors.Goals as goal

pub invariant_of-self : goal.invariant_of-self
invariant_of-self c =
    let regs = written_back closed_reg _ _ _ _ c.deref_mut.ensures.value c.deref_mut.ensures.len c.close_regs.ensures in
    let mems = written_back closed_mem _ _ _ _ c.deref_mut-2.ensures.value c.deref_mut-2.ensures.len c.close_mems.ensures in
    let sound = sound_closed _ c.self.invariant.0 in
    rw (regs, mems) (sound, masks_closed _ _ _ c.self.invariant.1)
