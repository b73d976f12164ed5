-- The missed ones so far were appended.
use Rattle.std.proofs.Common.{◌≡◌, ◌++◌, codes, take}
use Rattle.rl_grade_report.specs.Counts.{led}
use Rattle.rl_grade_report.specs.Json.{missed_parts}
use Rattle.rl_grade_report.proofs.Parts.{is_some_part}
use Rattle.rl_grade_report.proofs.json.push_missed.Given as goal

abbrev pub invariant-loop-it : goal.invariant-loop-it
invariant-loop-it l = record {
  pushed : l.text.items ≡ l.initial.text.items ++ led (codes "") (missed_parts l.chip l.layout (take l.it-index l.judged));
  told : l.told ≡ is_some_part (missed_parts l.chip l.layout (take l.it-index l.judged));
}
