use Rattle.rl_link.proofs.TextLemmas.{pieces_of_five}
use Rattle.rl_link.proofs.request.put_hw.Goals as goal

pub returns : goal.returns
returns c =
    pieces_of_five _ _ _ _ _ _ _ _ _ _ _ c.clear.ensures.items c.in_ok-push.ensures c.in_ok-push-2.ensures c.in_ok-push-3.ensures c.in_ok-push_hex.ensures c.in_ok-push-4.ensures
