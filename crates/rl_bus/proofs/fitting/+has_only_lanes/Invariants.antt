use Rattle.rl_bus.proofs.fitting.+has_only_lanes.Given as goal

abbrev pub decreases-has_only_lanes : goal.decreases-has_only_lanes
decreases-has_only_lanes l = l.bytes
