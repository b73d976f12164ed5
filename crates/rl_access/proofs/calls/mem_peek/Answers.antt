use Rattle.std.proofs.Common.{[], refl}
use Rattle.rl_access.specs.declared.event.Op.TheVariants as op
use Rattle.rl_access.proofs.Carried.{model_stays}
use Rattle.rl_access.proofs.calls.mem_peek.Goals as goal

pub returns-clause-model : goal.returns-clause-model
returns-clause-model g c = model_stays _ _ (op.MemPeek c.args.mem c.args.index) c.mem_peek_into.new.event (λ place sampled items. refl) (c.mem_peek_into.ensures.performs [])
