use Rattle.rl_plan.proofs.Planned.{further_fits, have_lines}
use Rattle.rl_plan.proofs.plan.push_further.Goals as goal

pub push_some_block-requires-clause-ops : goal.push_some_block-requires-clause-ops
push_some_block-requires-clause-ops c =
    let m = c.args.model.now in
    rw (c.deref.ensures.value, c.in_ok-ops.ensures.exact) (have_lines m _ (further_fits m c.args.asked c.args.reg c.planned_further.ensures.sound c.requires))
