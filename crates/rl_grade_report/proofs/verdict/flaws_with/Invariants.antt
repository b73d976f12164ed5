-- Those so far of which this is said.
use Rattle.std.proofs.Common.{◌≡◌, take}
use Rattle.rl_grade_report.specs.Verdict.{flaws_with}
use Rattle.rl_grade_report.proofs.verdict.flaws_with.Given as goal

abbrev pub invariant-loop-it : goal.invariant-loop-it
invariant-loop-it l = l.flaws.items ≡ flaws_with l.verdict (take l.it-index l.judged)
