use Rattle.rl_plan.specs.Text.{part_text}
use Rattle.rl_plan.proofs.Pushed.{text_more}
use Rattle.rl_plan.proofs.lines.push_part.Goals as goal

pub loop-item-preserved : goal.loop-item-preserved
loop-item-preserved c =
    text_more (part_text c.args.model.now c.args.asked c.args.part) _ _ _ c.args.items.now c.loop-item.item-index _ c.loop-item-test.true
    c.loop-item.invariant c.in_ok-push_item.ensures
