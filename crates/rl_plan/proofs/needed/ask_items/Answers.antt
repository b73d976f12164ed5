use Rattle.rl_plan.proofs.needed.ask_items.Goals as goal

pub ask_item-requires-clause-can_try : goal.ask_item-requires-clause-can_try
ask_item-requires-clause-can_try c = rw (c.loop-item.invariant.desc_is, c.loop-item.invariant.script_is) c.requires.can_try
