use Rattle.std.proofs.Common.{length}
use Rattle.rl_desc.proofs.Places.{part_is}
use Rattle.rl_desc.proofs.flaw.reg_at.Goals as goal

pub returns : goal.returns
returns c =
    let chip = c.args.chip.now in
    part_is c.args.path.now chip.paths chip.scopes (length chip.regs) _ (rw c.text.ensures at c.reg_by_path.ensures)
