-- Those that are of no flaw of the places so far are left.
use Rattle.std.proofs.Common.{◌≡◌, take}
use Rattle.rl_grade_report.specs.Waiving.{left_at}
use Rattle.rl_grade_report.proofs.waiving.left_at.Given as goal

abbrev pub invariant-loop-place : goal.invariant-loop-place
invariant-loop-place l = l.left.items ≡ left_at l.desc l.items (take l.place-index l.places) l.fn.rows.items
