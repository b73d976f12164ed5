-- The register's fields before this one are passed.
use Rattle.std.proofs.Common.{◌≡◌, ℕ, ◌+◌, ◌<◌, true}
use Rattle.rl_grade.specs.Unchecked.{is_passed}
use Rattle.rl_grade.proofs.unchecked.are_passed.Given as goal

abbrev pub invariant-loop-k : goal.invariant-loop-k
invariant-loop-k l = (j : ℕ) → j < l.k → is_passed l.chip l.flaw (l.first + j) ≡ true
