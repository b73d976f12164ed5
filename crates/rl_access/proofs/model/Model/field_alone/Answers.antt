use Rattle.std.proofs.Common.{subst}
use Rattle.rl_access.specs.Model.{IsModel}
use Rattle.rl_access.proofs.Alone.{alone_valid}
use Rattle.rl_access.proofs.model.Model.field_alone.Goals as goal

pub returns-clause-valid : goal.returns-clause-valid
returns-clause-valid c =
    alone_valid c.args.self.now c.args.field c.args.place c.field-shape.result c.bytes_of_field.result _ c.args.value c.put.result (subst IsModel c.self.view_is c.self.invariant)
    c.field-shape.ensures.field c.field-shape.ensures.reg c.field-shape.ensures.bits c.requires.place c.bytes_of_field.ensures c.put.ensures
