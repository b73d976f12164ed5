use Rattle.std.proofs.Common.{◌≡◌, take}
use Rattle.rl_link.proofs.names.kind_table.Given as goal

abbrev pub invariant-loop-kind : goal.invariant-loop-kind
invariant-loop-kind l = l.table ≡ take l.kind l.chip.kinds
