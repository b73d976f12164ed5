-- Those that are of none of the flaws so far are left.
use Rattle.std.proofs.Common.{◌≡◌, take}
use Rattle.rl_grade_report.specs.Waiving.{unknown_among}
use Rattle.rl_grade_report.proofs.waiving.unknown_among.Given as goal

abbrev pub invariant-loop-flaw : goal.invariant-loop-flaw
invariant-loop-flaw l = l.left.items ≡ unknown_among l.desc (take l.flaw-index l.flaws) l.fn.rows.items
