-- The numbers so far are none that is lacking.
use Rattle.std.proofs.Common.{◌≡◌, ◌+◌, ◌-◌, not}
use Rattle.std.specs.Prelude.{find}
use Rattle.std.specs.List.{range_with_len}
use Rattle.rl_grade_report.specs.Sums.{has_share, lacking_in}
use Rattle.rl_grade_report.proofs.sums.lacking_in.Given as goal

abbrev pub invariant-loop-before : goal.invariant-loop-before
invariant-loop-before l =
    find (λ number. not (has_share number l.parts)) (range_with_len (l.before + 1) (l.every - l.before)) ≡ lacking_in l.every l.parts
