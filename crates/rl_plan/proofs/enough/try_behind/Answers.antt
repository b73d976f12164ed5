use Rattle.std.proofs.Common.{◌∙◌}
use Rattle.rl_plan.proofs.BehindLemmas.{can_try_behind}
use Rattle.rl_plan.proofs.EnoughLemmas.{tried_behind}
use Rattle.rl_plan.proofs.enough.try_behind.Goals as goal

pub try_each-requires-clause-can_try : goal.try_each-requires-clause-can_try
try_each-requires-clause-can_try c =
    rw c.deref.ensures.value (can_try_behind c.args.desc _ _ _ c.in_ok-desc.ensures.desc c.requires.can_try c.in_ok-desc.ensures.fits)

pub returns-clause-graded : goal.returns-clause-graded
returns-clause-graded c =
    tried_behind _ c.args.desc _ c.args.asked c.args.script.now.items _ c.args.items.now c.in_ok-desc.ensures.desc
    (c.deref.ensures.value ∙ c.in_ok-desc.ensures.tasks) c.in_ok-tries.ensures.graded
