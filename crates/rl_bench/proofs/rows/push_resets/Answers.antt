use Rattle.std.proofs.Common.{◌∙◌}
use Rattle.rl_bench.specs.Rows.{reset_of}
use Rattle.rl_bench.proofs.RowLemmas.{pushed}
use Rattle.rl_bench.proofs.rows.push_resets.Goals as goal

pub loop-reset-preserved : goal.loop-reset-preserved
loop-reset-preserved c =
    c.in_ok-push.ensures.items
    ∙ pushed (reset_of c.args.field) c.args.rows.now.items c.loop-reset.rows.items c.args.resets.now c.loop-reset.reset-index _ c.loop-reset-test.true c.loop-reset.invariant
