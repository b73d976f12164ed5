use Rattle.std.proofs.Common.{length, sym, ◌∙◌, arith}
use Rattle.rl_seq.specs.Choice.{is_of}
use Rattle.rl_seq.proofs.Stretch.{none_before, first_within, none_counted}
use Rattle.rl_seq.proofs.choice.places_of.Goals as goal

pub loop-place-init : goal.loop-place-init
loop-place-init c =
    let l = c.args.layout.now in
    let first = c.first_place-place.result in
    record {
      within = first_within l c.args.item first c.first_place-place.ensures;
      few = omega arith;
      counted = sym (none_counted (λ k. is_of l k c.args.item) 0 first (omega arith)
          (λ k from low. none_before l c.args.item first k c.first_place-place.ensures low));
    }

pub returns : goal.returns
returns c =
    let l = c.args.layout.now in
    c.loop-place.invariant.counted ∙ sym (none_counted (λ k. is_of l k c.args.item) c.loop-place.place (length l.places) c.loop-place.invariant.within
    (λ k from low. c.end_of-place-end.ensures.none k (omega (arith, from, c.loop-place-test.false)) low))
