use Rattle.std.proofs.Common.{◌≡◌, Ok, refl, ap, sym, ◌∙◌, []}
use Rattle.rl_model.specs.declared.rows.Field.{Field}
use Rattle.rl_access.specs.declared.event.End.TheVariants as end
use Rattle.rl_access.specs.declared.event.Op.TheVariants as op
use Rattle.rl_access.specs.Operation.{reg_of}
use Rattle.rl_access.specs.Rules.{grant}
use Rattle.rl_access.proofs.OverBus.{is_set}
use Rattle.rl_access.proofs.Performed.{quiet_performs}
use Rattle.rl_access.proofs.wishes.set_into.Goals as goal

pub returns-in-Ok-clause-performs : goal.returns-in-Ok-clause-performs
returns-in-Ok-clause-performs c adapters account device =
    let m = c.args.model.now in
    let asked = op.Set c.args.field c.args.value in
    let granted : grant m asked ≡ Ok c.in-Ok.field-0 = sym c.fitting_field.ensures.grant ∙ c.in-Ok.is in
    quiet_performs m c.set.new.self asked asked c.in-Ok.field-0 (reg_of m.chip c.args.field) c.field-reg.result.reg end.Done [] c.fill.new.event adapters account device granted refl
    (is_set m c.set.new.self c.args.field c.args.value c.in-Ok.field-0 c.set.ensures)
    (ap (λ (f : Field). f.reg) c.field-reg.ensures.field) refl c.fill.ensures.event
