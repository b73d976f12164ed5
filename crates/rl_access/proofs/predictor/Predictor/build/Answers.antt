use Rattle.std.proofs.Common.{◌≡◌, length, arith}
use Rattle.rl_access.proofs.Places.{none_gathered, fresh_predictor}
use Rattle.rl_access.proofs.predictor.Predictor.build.Goals as goal

pub returns-clause-built : goal.returns-clause-built
returns-clause-built c =
    let all : c.loop-place._place ≡ length c.args.layout.now.places = omega (arith, c.places-place-end.ensures.count, c.loop-place-test.false, c.loop-place.auto._place-end) in
    rw c.loop-place.invariant (fresh_predictor c.args.layout.now c.loop-place._place c.places-place-end.ensures.sound all)

pub returns-clause-nothing_gathered : goal.returns-clause-nothing_gathered
returns-clause-nothing_gathered c = rw c.loop-place.invariant (none_gathered c.loop-place._place)
