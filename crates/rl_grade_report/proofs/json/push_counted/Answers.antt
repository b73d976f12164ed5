use Rattle.std.proofs.Common.{append_assoc, append-nil}
use Rattle.rl_report.specs.Pieces.{joined}
use Rattle.rl_grade_report.proofs.json.push_counted.Goals as goal

pub returns : goal.returns
unfolding joined
returns c =
    rw (
      c.in_ok-push_count_if-2.ensures,
      c.in_ok-push_count_if.ensures,
      c.in_ok-push_after-4.ensures,
      c.in_ok-push_after-3.ensures,
      c.missed.ensures,
      c.in_ok-push_after-2.ensures,
      c.in_ok-push_after.ensures,
    ) (simp (append_assoc, append-nil))
