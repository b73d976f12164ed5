use Rattle.std.proofs.Common.{arith}
use Rattle.rl_model.specs.declared.rows.Item.TheVariants.{Reg}
use Rattle.rl_plan.proofs.ItemLemmas.{numbered_more}
use Rattle.rl_plan.proofs.lines.push_reg_items.Goals as goal

pub loop-reg-preserved : goal.loop-reg-preserved
loop-reg-preserved c = numbered_more Reg 0 c.loop-reg.reg _ _ _ _ (omega arith) c.loop-reg.invariant c.in_ok-push.ensures.items
