use Rattle.rl_model.specs.Chip.{closed_mem}
use Rattle.rl_model.proofs.Backdoors.{mapped_more}
use Rattle.rl_model.proofs.backdoor.close_mems.Goals as goal

pub loop-row-preserved : goal.loop-row-preserved
loop-row-preserved c = mapped_more closed_mem c.args.rows.now _ _ _ c.loop-row.invariant c.loop-row-test.true
