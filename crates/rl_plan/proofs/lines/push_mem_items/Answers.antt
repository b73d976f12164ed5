use Rattle.std.proofs.Common.{arith}
use Rattle.rl_model.specs.declared.rows.Item.TheVariants.{Mem}
use Rattle.rl_plan.proofs.ItemLemmas.{numbered_more}
use Rattle.rl_plan.proofs.lines.push_mem_items.Goals as goal

pub loop-mem-preserved : goal.loop-mem-preserved
loop-mem-preserved c = numbered_more Mem 0 c.loop-mem.mem _ _ _ _ (omega arith) c.loop-mem.invariant c.in_ok-push.ensures.items
