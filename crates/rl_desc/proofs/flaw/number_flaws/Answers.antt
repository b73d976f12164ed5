use Rattle.std.proofs.Common.{subst, sym, arith}
use Rattle.std.proofs.Math.ListN.{drop_of_length-le}
use Rattle.rl_desc.proofs.FlawLemmas.{Goes, at_part, goes_on, too_many, not_there, all_made}
use Rattle.rl_desc.proofs.flaw.number_flaws.Goals as goal

pub loop-part-preserved : goal.loop-part-preserved
loop-part-preserved c =
    let so_far = at_part c.loop-part-test.true c.part-item.is c.loop-part.invariant.goes in
    record {
      few = omega arith;
      goes = goes_on _ _ _ _ _ _ _ _ _ so_far c.if-row-ge-MOST_FLAWS.false (sym c.in-Some.ensures) c.in_ok-push.ensures.items;
    }

pub returns-then-row-ge-MOST_FLAWS : goal.returns-then-row-ge-MOST_FLAWS
returns-then-row-ge-MOST_FLAWS c = λ _.
    too_many _ _ _ _ _ _ _ (at_part c.loop-part-test.true c.part-item.is c.loop-part.invariant.goes) c.if-row-ge-MOST_FLAWS.true

pub returns-in_default : goal.returns-in_default
returns-in_default c = λ _.
    not_there _ _ _ _ _ _ _ (at_part c.loop-part-test.true c.part-item.is c.loop-part.invariant.goes) c.if-row-ge-MOST_FLAWS.false (sym c.in_default.ensures)

pub returns : goal.returns
returns c =
    let parts = c.args.parts.now in
    let chip = c.args.chip.now in
    let layout = c.args.layout.now in
    let row = c.loop-part.row in
    let flaws = c.loop-part.flaws.items in
    all_made chip layout parts row flaws
    (subst (λ rest. Goes chip layout parts row rest flaws) (drop_of_length-le parts c.loop-part-test.false) c.loop-part.invariant.goes)
