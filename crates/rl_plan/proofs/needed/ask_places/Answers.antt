use Rattle.rl_plan.proofs.needed.ask_places.Goals as goal

pub ask_place-requires-clause-can_try : goal.ask_place-requires-clause-can_try
ask_place-requires-clause-can_try c = rw c.loop-place.invariant.desc_is c.requires.can_try

pub ask_place-requires-clause-place : goal.ask_place-requires-clause-place
ask_place-requires-clause-place c =
    rw c.loop-place.invariant.desc_is (c.requires.places c.loop-place.place-index _ c.loop-place-test.true)
