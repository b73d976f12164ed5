use Rattle.rl_model.specs.declared.rows.MemRow.{MemRow}
use Rattle.rl_model.proofs.Reading.{read_at}
use Rattle.rl_model.proofs.chip.Chip.writable.Goals as goal

pub returns : goal.returns
returns c = read_at (λ (m : MemRow). m.writable) c.args.self.now.mems c.args.mem c.index.result.now c.requires (rw (← c.self.view_is) c.index.ensures)
