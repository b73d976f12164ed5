use Rattle.std.proofs.Common.{replicate, ap, ◌∙◌}
use Rattle.rl_bench.proofs.bench.empty_memory.Goals as goal

pub returns-clause-bits : goal.returns-clause-bits
returns-clause-bits c = c.in_ok-empty_cells.ensures.bits ∙ ap (λ n. replicate n 0) (c.len-regs.ensures ∙ c.args.board.now.tables.regs.ok.0)

pub returns-clause-marks : goal.returns-clause-marks
returns-clause-marks c = c.in_ok-empty_cells.ensures.marks ∙ ap (λ n. replicate n 0) (c.len-regs.ensures ∙ c.args.board.now.tables.regs.ok.0)
