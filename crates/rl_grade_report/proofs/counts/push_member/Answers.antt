use Rattle.std.proofs.Common.{append_assoc, append-nil}
use Rattle.rl_report.specs.Pieces.{joined}
use Rattle.rl_grade_report.proofs.counts.push_member.Goals as goal

pub returns : goal.returns
unfolding joined
returns c =
    rw (
      c.in_ok-extend_from_slice-4.ensures.items,
      c.in_ok-push_count_if.ensures,
      c.in_ok-push_after-3.ensures,
      c.in_ok-push_after-2.ensures,
      c.in_ok-push_after.ensures,
      c.in_ok-extend_from_slice-3.ensures.items,
      c.name.ensures,
      c.in_ok-extend_from_slice-2.ensures.items,
      c.in_ok-extend_from_slice.ensures.items,
    ) (simp (append_assoc, append-nil))
