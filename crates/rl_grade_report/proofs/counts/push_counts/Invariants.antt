-- The counts of the kinds so far were appended.
use Rattle.std.proofs.Common.{◌≡◌, ◌++◌, take}
use Rattle.rl_grade_report.specs.declared.kind.TheConstants.{KINDS}
use Rattle.rl_grade_report.specs.Counts.{counts_parts, led}
use Rattle.rl_grade_report.proofs.Parts.{is_some_part}
use Rattle.rl_grade_report.proofs.counts.push_counts.Given as goal

abbrev pub invariant-loop-kind : goal.invariant-loop-kind
invariant-loop-kind l = record {
  pushed : l.text.items ≡ l.initial.text.items ++ led l.first (counts_parts l.form l.judged (take l.kind-index KINDS));
  told : l.told ≡ is_some_part (counts_parts l.form l.judged (take l.kind-index KINDS));
}
