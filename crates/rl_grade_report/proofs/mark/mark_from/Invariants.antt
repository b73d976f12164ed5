-- The bytes from the next one on are left.
use Rattle.std.proofs.Common.{◌≡◌, drop}
use Rattle.rl_grade_report.specs.Mark.{mark_from}
use Rattle.rl_grade_report.proofs.mark.mark_from.Given as goal

abbrev pub invariant-loop-byte : goal.invariant-loop-byte
invariant-loop-byte l = mark_from l.mark (drop l.byte-index l.bytes) ≡ mark_from l.start l.bytes
