use Rattle.std.proofs.Common.{ap, ◌∙◌}
use Rattle.rl_desc.specs.Data.{DescData}
use Rattle.rl_plan.specs.Needed.{places_of}
use Rattle.rl_plan.proofs.BehindLemmas.{can_try_behind}
use Rattle.rl_plan.proofs.NeedLemmas.{needed_by}
use Rattle.rl_plan.proofs.needed.ask_item.Goals as goal

pub ask_tasks-requires-clause-can_try : goal.ask_tasks-requires-clause-can_try
ask_tasks-requires-clause-can_try c =
    rw c.deref.ensures.value (can_try_behind c.args.desc _ _ _ c.in_ok-desc.ensures.desc c.requires.can_try c.in_ok-desc.ensures.fits)

pub returns-clause-finds : goal.returns-clause-finds
returns-clause-finds c =
    needed_by _ c.args.desc _ c.args.asked c.args.script.now.items _ c.args.item _ c.in_ok-desc.ensures.desc
    (c.deref.ensures.value ∙ c.in_ok-desc.ensures.tasks)
    (c.deref-2.ensures.value ∙ c.in_ok-places.ensures.places ∙ ap (λ (d : DescData). places_of d.chip c.args.item) c.desc.view_is)
    c.in_ok-answer.ensures.finds
