use Rattle.rl_plan.proofs.ItemLemmas.{items_there}
use Rattle.rl_plan.proofs.lines.items_of.Goals as goal

pub returns-clause-each : goal.returns-clause-each
returns-clause-each c =
    rw (c.in_ok-push_mem_items.ensures, c.mems.ensures.count, c.in_ok-push_reg_items.ensures, c.regs.ensures.count, c.new-items.ensures.items)
    (items_there c.args.chip.now)
