-- As many have none yet as were gone over.
use Rattle.rl_grade.specs.Sorted.{IsBlank}
use Rattle.rl_grade.proofs.register.blank.Given as goal

abbrev pub invariant-loop : goal.invariant-loop
invariant-loop g l = IsBlank l.counter l.table.items
