use Rattle.rl_plan.proofs.PlaceLemmas.{places_there}
use Rattle.rl_plan.proofs.places.places_of.Goals as goal

pub returns-clause-each : goal.returns-clause-each
returns-clause-each c =
    rw (c.in_ok-push_own_fields.ensures, c.in_ok-push.ensures.items, c.new-places.ensures.items)
    (places_there c.args.chip.now c.fields-fields.ensures.sound c.args.item c.requires)
