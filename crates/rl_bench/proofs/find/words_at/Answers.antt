use Rattle.std.proofs.Common.{◌≡◌, ◌+◌, ◌*◌, ◌^◌, true, get_or, sym, ap, ◌∙◌, subst, ⊎_elim, arith}
use Rattle.std.proofs.lemmas.Bool.{cases_lt}
use Rattle.rl_bus.specs.Setup.{stands_at}
use Rattle.rl_bench.proofs.StretchLemmas.{stretch_here, high_from, any_default}
use Rattle.rl_bench.proofs.find.words_at.Goals as goal

pub returns-then-not-stands_at : goal.returns-then-not-stands_at
returns-then-not-stands_at c =
    let words = c.args.words.now in
    let j = c.loop-end.end in
    let t = c.args.port * 2 ^ 64 + c.args.address in
    let apart = c.stands_at.ensures.key (sym c.stands_at.ensures.test ∙ c.if-not-stands_at.true) in
    stretch_here words c.args.port c.args.address c.first_from-first.result j c.requires c.loop-end.auto.end
    (omega (arith, c.loop-end-test.true)) c.first_from-first.ensures.before c.loop-end.invariant
    (λ d m. high_from words j t _ d m apart (c.first_from-first.ensures.behind j d c.loop-end.auto.end m))

pub loop-end-preserved : goal.loop-end-preserved
loop-end-preserved c = λ k d low high.
    let words = c.args.words.now in
    let j = c.loop-end.end in
    let here : stands_at c.args.port c.args.address (get_or words j d) ≡ true =
    ap (stands_at c.args.port c.args.address) (any_default words j d _ c.loop-end-test.true) ∙ sym c.stands_at.ensures.test ∙ c.if-not-stands_at.false in
    ⊎_elim (λ before. c.loop-end.invariant k d low before)
    (λ behind. subst (λ n. stands_at c.args.port c.args.address (get_or words n d) ≡ true) (let same : j ≡ k = omega arith in same) here) (cases_lt k j)
