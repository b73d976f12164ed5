use Rattle.rl_link.proofs.TextLemmas.{pieces_of_eleven}
use Rattle.rl_link.proofs.request.put_transfer.Goals as goal

pub returns : goal.returns
returns c =
    pieces_of_eleven _ _ _ _ _ _ _ _ _ _ _ _ _ _ _ _ _ _ _ _ _ _ _ c.clear.ensures.items c.in_ok-push_way.ensures c.in_ok-push.ensures c.in_ok-push-2.ensures
    c.in_ok-push_hex.ensures c.in_ok-push-3.ensures c.in_ok-push_hex-2.ensures c.in_ok-push-4.ensures c.in_ok-push_lanes.ensures c.in_ok-push-5.ensures c.in_ok-push_decimal.ensures
    c.in_ok-push-6.ensures
