use Rattle.std.proofs.Common.{◌+◌, ◌*◌, ◌^◌, sym, ◌∙◌, arith}
use Rattle.rl_bench.proofs.StretchLemmas.{first_low, first_high}
use Rattle.rl_bench.proofs.find.first_beside.Goals as goal

pub loop-first-init : goal.loop-first-init
loop-first-init c =
    first_low c.args.words.now c.saturating_sub-low.result (c.args.port * 2 ^ 64 + c.args.address) _ c.requires (omega arith) (sym c.is_before.ensures ∙ c.if-not-is_before.false)

pub loop-first-preserved : goal.loop-first-preserved
loop-first-preserved c =
    first_low c.args.words.now c.loop-first.first (c.args.port * 2 ^ 64 + c.args.address) _ c.requires (omega arith) (sym c.is_before-in-loop-first.ensures ∙ c.if-not-is_before-2.false)

pub returns-then-not-is_before-2-clause-behind : goal.returns-then-not-is_before-2-clause-behind
returns-then-not-is_before-2-clause-behind c =
    first_high c.args.words.now c.loop-first.first (c.args.port * 2 ^ 64 + c.args.address) _ c.requires (omega arith) (sym c.is_before-in-loop-first.ensures ∙ c.if-not-is_before-2.true)

pub returns-then-not-is_before-2-clause-before : goal.returns-then-not-is_before-2-clause-before
returns-then-not-is_before-2-clause-before c = c.loop-first.invariant
