use Rattle.rl_plan.specs.declared.needed.Answer.{Answer}
use Rattle.rl_plan.proofs.NeedLemmas.{found_in}
use Rattle.rl_plan.proofs.needed.ask_tasks.Goals as goal

pub ask_places-requires-clause-can_try : goal.ask_places-requires-clause-can_try
ask_places-requires-clause-can_try c = rw c.in_ok-desc.ensures.desc c.requires.can_try

pub ask_places-requires-clause-places : goal.ask_places-requires-clause-places
ask_places-requires-clause-places c = rw c.in_ok-desc.ensures.desc c.requires.places

pub returns-clause-finds : goal.returns-clause-finds
returns-clause-finds c =
    found_in (λ (a : Answer). a.holds) _ c.args.desc _ c.args.tasks.now _ _ c.args.places.now c.in_ok-desc.ensures.desc
    c.in_ok-desc.ensures.seen c.in_ok-desc.ensures.items c.ask_places.ensures.finds
