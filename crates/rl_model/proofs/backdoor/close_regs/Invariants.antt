-- The rows so far are closed, and the others are as they were.
use Rattle.std.proofs.Common.{◌≡◌, ◌++◌, map, take, drop}
use Rattle.rl_model.specs.Chip.{closed_reg}
use Rattle.rl_model.proofs.backdoor.close_regs.Given as goal

abbrev pub invariant-loop-row : goal.invariant-loop-row
invariant-loop-row l = l.rows ≡ map closed_reg (take l.row-index l.fn.rows) ++ drop l.row-index l.fn.rows
