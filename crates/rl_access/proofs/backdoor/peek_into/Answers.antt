use Rattle.std.proofs.Common.{sym, ◌∙◌, refl}
use Rattle.rl_access.proofs.BackPerforms.{peek_performs}
use Rattle.rl_access.proofs.backdoor.peek_into.Goals as goal

pub returns-in-Ok-clause-performs : goal.returns-in-Ok-clause-performs
returns-in-Ok-clause-performs g c =
    peek_performs c.args.model.now c.predict_raw.new.self _ _ c.args.reg c.sampled-bits.result _ _ _ (sym c.by_backdoor.ensures ∙ c.in-Ok.is) c.sampled-bits.ensures.found c.predict_raw.ensures refl
    c.fill.ensures.event
