use Rattle.std.proofs.Common.{◌++◌, map, ap, ◌∙◌}
use Rattle.rl_plan.specs.Behind.{added_task, part_tasks}
use Rattle.rl_plan.proofs.Pushed.{text_more}
use Rattle.rl_plan.proofs.behind.push_part.Goals as goal

pub loop-item-preserved : goal.loop-item-preserved
loop-item-preserved c =
    text_more (part_tasks c.args.model.now c.args.asked c.args.part) _ _ _ c.args.items.now c.loop-item.item-index _ c.loop-item-test.true
    c.loop-item.invariant
    (c.in_ok-push_ops.ensures ∙ ap (λ ops. c.loop-item.tasks.items ++ map added_task ops) (c.deref.ensures.value ∙ c.in_ok-ops.ensures))
