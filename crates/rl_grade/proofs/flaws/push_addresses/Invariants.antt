-- The addresses of the words before this one were appended.
use Rattle.std.proofs.Common.{◌≡◌, ◌++◌}
use Rattle.rl_grade.specs.Flaws.{own_addresses}
use Rattle.rl_grade.proofs.flaws.push_addresses.Given as goal

abbrev pub invariant-loop-k : goal.invariant-loop-k
invariant-loop-k l = l.flaws.items ≡ l.initial.flaws.items ++ own_addresses l.chip l.rows l.item l.k
