use Rattle.rl_access.proofs.Carried.{location_leaves, model_stays}
use Rattle.rl_access.proofs.operation.perform_on_memory_into.Goals as goal

pub returns-clause-model : goal.returns-clause-model
returns-clause-model g c =
    let does = c.perform_over_bus.ensures.does in
    model_stays _ _ c.args.op c.perform_over_bus.new.event (location_leaves c.args.model.now c.args.op c.requires.on_memory) does.performs
