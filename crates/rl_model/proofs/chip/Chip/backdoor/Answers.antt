use Rattle.rl_model.specs.declared.rows.MemRow.{MemRow}
use Rattle.rl_model.specs.declared.rows.RegRow.{RegRow}
use Rattle.rl_model.proofs.Reading.{read_at}
use Rattle.rl_model.proofs.chip.Chip.backdoor.Goals as goal

pub returns-in-Reg : goal.returns-in-Reg
returns-in-Reg c =
    rw c.in-Reg.is
    (read_at (λ (r : RegRow). r.backdoor) c.args.self.now.regs c.in-Reg.reg c.index.result.now (rw c.in-Reg.is at c.requires) (rw (← c.self.view_is) c.index.ensures))

pub returns-in-Mem : goal.returns-in-Mem
returns-in-Mem c =
    rw c.in-Mem.is
    (read_at (λ (m : MemRow). m.backdoor) c.args.self.now.mems c.in-Mem.mem c.index-in-Mem.result.now (rw c.in-Mem.is at c.requires) (rw (← c.self.view_is) c.index-in-Mem.ensures))
