use Rattle.std.proofs.Common.{◌+◌, drop, ap, ◌∙◌, arith}
use Rattle.rl_flaw.specs.Flaws.{flaws_of}
use Rattle.rl_bench.specs.FlawTables.{flaws_held}
use Rattle.rl_bench.proofs.FlawLemmas.{both, flaws_next, flaws_done}
use Rattle.rl_bench.proofs.tables.flaw_tables.Goals as goal

pub loop-flaw-preserved : goal.loop-flaw-preserved
loop-flaw-preserved c =
    let flaws = c.args.flaws.now in
    let i = c.loop-flaw.flaw-index in
    ap (λ t. both t (flaws_of (drop (i + 1) flaws))) c.in_ok-push_flaw.ensures
    ∙ flaws_next (flaws_held c.loop-flaw.tables) flaws i _ c.loop-flaw-test.true ∙ c.loop-flaw.invariant

pub returns : goal.returns
returns c =
    flaws_done (flaws_held c.loop-flaw.tables) _ c.args.flaws.now c.loop-flaw.flaw-index (omega (arith, c.loop-flaw-test.false)) c.loop-flaw.invariant
