use Rattle.std.proofs.Common.{append_assoc, append-nil}
use Rattle.rl_report.specs.Pieces.{joined}
use Rattle.rl_grade_report.proofs.json.push_facts.Goals as goal

pub returns : goal.returns
unfolding joined
returns c =
    rw (
      c.in_ok-extend_from_slice-2.ensures.items,
      c.in_ok-push_after-3.ensures,
      c.in_ok-push_after-2.ensures,
      c.in_ok-push_after.ensures,
      c.in_ok-push_mark.ensures,
      c.in_ok-extend_from_slice.ensures.items,
    ) (simp (append_assoc, append-nil))
