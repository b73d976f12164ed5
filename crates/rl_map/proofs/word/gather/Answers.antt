use Rattle.std.proofs.Common.{arith, sym, ◌∙◌}
use Rattle.rl_map.proofs.Gathered.{gathered_some, gathered_none}
use Rattle.rl_map.proofs.word.gather.Goals as goal
use Rattle.rl_map.proofs.word.gather.Goals.{in-Some, in_default}

pub loop-lane-preserved : goal.loop-lane-preserved
loop-lane-preserved c =
    elim c.match-byte_at.branch [
      | in-Some w ↦ rw (w.lanes-is, w.bytes-is) (gathered_some _ _ _ _ _ (sym c.byte_at.ensures ∙ w.in-Some.is) (omega arith) c.loop-lane.invariant)
      | in_default w ↦ rw (w.lanes-is, w.bytes-is) (gathered_none _ _ _ _ (sym c.byte_at.ensures ∙ w.in_default.is) c.loop-lane.invariant)
    ]
