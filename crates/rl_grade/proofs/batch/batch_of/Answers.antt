use Rattle.std.proofs.Common.{◌≤◌, ◌+◌, ◌++◌, None, length, drop, sym, ap, ◌∙◌, append-nil, arith}
use Rattle.std.proofs.lemmas.List.{drop_all, drop_more}
use Rattle.rl_grade.specs.Batch.{chosen_flaws}
use Rattle.rl_grade.proofs.Batching.{picked_next}
use Rattle.rl_grade.proofs.batch.batch_of.Goals as goal

pub loop-number-init : goal.loop-number-init
loop-number-init c = ap (λ xs. xs ++ chosen_flaws c.args.flaws.now c.args.chosen.now) c.new-batch.ensures.items

pub loop-number-preserved : goal.loop-number-preserved
loop-number-preserved c =
    let chosen = c.args.chosen.now in
    let i = c.loop-number.number-index in
    picked_next c.args.flaws.now c.loop-number.batch.items _ _ (drop i chosen) (drop (i + 1) chosen) chosen
    (drop_more chosen i None c.loop-number-test.true) c.in_ok-push_chosen.ensures c.loop-number.invariant

pub returns : goal.returns
returns c =
    let chosen = c.args.chosen.now in
    let all : length chosen ≤ c.loop-number.number-index = omega (arith, c.loop-number-test.false) in
    sym (append-nil c.loop-number.batch.items)
    ∙ sym (ap (λ xs. c.loop-number.batch.items ++ chosen_flaws c.args.flaws.now xs) (drop_all c.loop-number.number-index chosen all))
    ∙ c.loop-number.invariant
