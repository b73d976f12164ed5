use Rattle.std.proofs.Common.{arith}
use Rattle.rl_access.proofs.Alone.{counted_from}
use Rattle.rl_access.proofs.model.Model.place_in_register.Goals as goal

pub overflow_sub-result : goal.overflow_sub-result
overflow_sub-result c =
    let at = counted_from _ c.args.self.now c.args.field c.field.result c.first_field.result c.self.view_is c.self.invariant c.requires c.field.ensures.field c.first_field.ensures.value in
    omega (arith, at.from)

pub returns-clause-few : goal.returns-clause-few
returns-clause-few c =
    let at = counted_from _ c.args.self.now c.args.field c.field.result c.first_field.result c.self.view_is c.self.invariant c.requires c.field.ensures.field c.first_field.ensures.value in
    omega (arith, at.from, at.few)
