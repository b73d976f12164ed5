use Rattle.std.proofs.Common.{◌+◌, ◌-◌, ◌*◌, ◌^◌, sym, ◌∙◌, arith}
use Rattle.rl_bench.proofs.StretchLemmas.{first_low, first_high}
use Rattle.rl_bench.proofs.find.is_first.Goals as goal

pub returns-then-first-eq0-clause-before : goal.returns-then-first-eq0-clause-before
returns-then-first-eq0-clause-before c t k d l = absurd (omega (arith, l, c.if-first-eq0.true))

pub returns-then-first-eq0-clause-behind : goal.returns-then-first-eq0-clause-behind
returns-then-first-eq0-clause-behind c t k d l m =
    first_high c.args.words.now c.args.first (c.args.port * 2 ^ 64 + c.args.address) _ c.requires c.if-first-words.false (sym c.is_before.ensures ∙ c.if-is_before.false) k d l m

pub returns-else-first-eq0-clause-before : goal.returns-else-first-eq0-clause-before
returns-else-first-eq0-clause-before c t k d l =
    first_low c.args.words.now (c.args.first - 1) (c.args.port * 2 ^ 64 + c.args.address) _ c.requires
    (omega (arith, l, c.if-first-words.false)) (sym c.is_before-else-first-eq0.ensures ∙ t) k d (omega (arith, l))

pub returns-else-first-eq0-clause-behind : goal.returns-else-first-eq0-clause-behind
returns-else-first-eq0-clause-behind c t k d l m =
    first_high c.args.words.now c.args.first (c.args.port * 2 ^ 64 + c.args.address) _ c.requires c.if-first-words.false (sym c.is_before.ensures ∙ c.if-is_before.false) k d l m
