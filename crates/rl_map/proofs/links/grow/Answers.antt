use Rattle.std.proofs.Common.{get_or, ap, ◌∙◌}
use Rattle.rl_map.proofs.Lists.{zero_behind}
use Rattle.rl_map.proofs.links.grow.Goals as goal

pub loop-numbers-preserved : goal.loop-numbers-preserved
loop-numbers-preserved c k =
    ap (λ numbers. get_or numbers k 0) c.in_ok-push.ensures.items ∙ zero_behind c.loop-numbers.numbers.items k ∙ c.loop-numbers.invariant k
