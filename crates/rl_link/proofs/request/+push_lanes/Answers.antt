use Rattle.std.proofs.Common.{◌-◌, arith}
use Rattle.rl_link.proofs.TextLemmas.{lanes_more}
use Rattle.rl_link.proofs.request.+push_lanes.Goals as goal

pub returns : goal.returns
returns t c =
    lanes_more _ _ _ c.args.bytes (c.args.bytes - 1) c.args.lanes c.lane_digit.result (omega arith) c.lane_digit.ensures c.in_ok-push.ensures.items c.in_ok-push_lanes.ensures
