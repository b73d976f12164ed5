use Rattle.rl_link.proofs.request.+push_lanes.Given as goal

abbrev pub decreases-push_lanes : goal.decreases-push_lanes
decreases-push_lanes l = l.bytes
