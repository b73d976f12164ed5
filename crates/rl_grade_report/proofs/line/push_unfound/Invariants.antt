-- What is said of the flaws by the verdicts so far was appended.
use Rattle.std.proofs.Common.{◌≡◌, ◌++◌, take}
use Rattle.std.specs.List.{flat_map}
use Rattle.rl_grade_report.specs.declared.verdict.TheConstants.{VERDICTS}
use Rattle.rl_grade_report.specs.Lines.{said_text}
use Rattle.rl_grade_report.proofs.line.push_unfound.Given as goal

abbrev pub invariant-loop-verdict : goal.invariant-loop-verdict
invariant-loop-verdict l =
    l.text.items ≡ l.initial.text.items ++ flat_map (said_text l.chip l.layout l.judged) (take l.verdict-index VERDICTS)
