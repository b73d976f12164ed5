use Rattle.std.proofs.Common.{◌≡◌, Some, option_map, slice_get, subst}
use Rattle.rl_access.specs.Model.{IsModel, ModelData}
use Rattle.rl_access.proofs.Seated.{shape_is, field_in}
use Rattle.rl_access.proofs.model.Model.field.Goals as goal

pub returns-clause-bits : goal.returns-clause-bits
returns-clause-bits c =
    let m = c.args.self.now in
    let ok : IsModel m = subst IsModel c.self.view_is c.self.invariant in
    let value = subst (λ (n : ModelData). option_map (λ f. f.shape) (slice_get n.chip.fields c.args.field) ≡ Some c.field.result) c.self.view_is c.field.ensures.value in
    field_in m.chip c.args.field c.field.result ok.chip c.requires (shape_is m.chip c.args.field c.field.result c.requires value)
