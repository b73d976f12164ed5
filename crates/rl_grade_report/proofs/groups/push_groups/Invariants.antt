-- The groups that begin before the next place were appended.
use Rattle.std.proofs.Common.{◌≡◌, ◌++◌}
use Rattle.rl_grade_report.specs.Counts.{led}
use Rattle.rl_grade_report.specs.Groups.{groups_parts}
use Rattle.rl_grade_report.proofs.Parts.{is_some_part}
use Rattle.rl_grade_report.proofs.groups.push_groups.Given as goal

abbrev pub invariant-loop-place : goal.invariant-loop-place
invariant-loop-place l = record {
  pushed : l.text.items ≡ l.initial.text.items ++ led l.first (groups_parts l.chip l.layout l.flaws l.place);
  told : l.told ≡ is_some_part (groups_parts l.chip l.layout l.flaws l.place);
}
