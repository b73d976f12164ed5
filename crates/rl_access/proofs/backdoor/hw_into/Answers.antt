use Rattle.std.proofs.Common.{Ok, ap, ◌∙◌, refl}
use Rattle.rl_model.specs.declared.rows.Field.{Field}
use Rattle.rl_access.specs.declared.event.Refused.TheVariants.{NotVolatile}
use Rattle.rl_access.specs.Rules.{fitting_field, only_where}
use Rattle.rl_access.proofs.BackPerforms.{then_only, hw_performs}
use Rattle.rl_access.proofs.backdoor.hw_into.Goals as goal

pub returns-in-Ok-clause-performs : goal.returns-in-Ok-clause-performs
returns-in-Ok-clause-performs g c =
    let m = c.args.model.now in
    let volatile = c.only_where-grant.ensures ∙ ap (λ (f : Field). only_where (Ok 0) f.volatile NotVolatile) c.field-shape.ensures.field in
    let granted = then_only (fitting_field m c.args.field c.args.value) _ _ _ _ volatile c.fitting_field.ensures.grant c.in-Ok.is in
    hw_performs m _ _ _ _ c.args.field c.args.value _ _ _ _ granted c.set_by_hardware.ensures.step (ap (λ (f : Field). f.reg) c.field-shape.ensures.field) refl c.fill.ensures.event
    c.set_by_hardware.ensures.asked
