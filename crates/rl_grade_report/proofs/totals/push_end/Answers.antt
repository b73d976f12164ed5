use Rattle.std.proofs.Common.{append_assoc, append-nil}
use Rattle.rl_report.specs.Pieces.{joined}
use Rattle.rl_grade_report.proofs.totals.push_end.Goals as goal

pub returns : goal.returns
unfolding joined
returns c =
    rw (
      c.in_ok-extend_from_slice-2.ensures.items,
      c.in_ok-push_findable.ensures,
      c.in_ok-push_share.ensures,
      c.in_ok-push_left_out.ensures,
      c.in_ok-extend_from_slice.ensures.items,
      c.in_ok-push_after-3.ensures,
      c.missed.ensures,
      c.in_ok-push_after-2.ensures,
      c.in_ok-push_after.ensures,
    ) (simp (append_assoc, append-nil))
