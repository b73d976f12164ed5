-- The flaws so far were judged.
use Rattle.std.proofs.Common.{◌≡◌, map, take}
use Rattle.rl_grade_report.specs.Judging.{judged_by}
use Rattle.rl_grade_report.proofs.judging.judge.Given as goal

abbrev pub invariant-loop-it : goal.invariant-loop-it
invariant-loop-it l = l.judged.items ≡ map (judged_by l.desc l.waivers) (take l.it-index l.graded)
