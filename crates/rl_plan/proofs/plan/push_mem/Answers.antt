use Rattle.rl_plan.proofs.Planned.{have_lines, mem_fits}
use Rattle.rl_plan.proofs.plan.push_mem.Goals as goal

pub push_block-requires-clause-ops : goal.push_block-requires-clause-ops
push_block-requires-clause-ops c =
    let m = c.args.model.now in
    rw (c.deref.ensures.value, c.in_ok-ops.ensures.exact) (have_lines m _ (mem_fits m c.args.mem c.planned_in.ensures.sound c.requires))
