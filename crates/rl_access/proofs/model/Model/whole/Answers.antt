use Rattle.std.proofs.Common.{◌≡◌, Some, subst}
use Rattle.rl_model.specs.Chip.{bytes_of}
use Rattle.rl_model.specs.declared.rows.Item.TheVariants as item
use Rattle.rl_access.specs.Model.{IsModel, ModelData}
use Rattle.rl_access.proofs.Places.{size_is, whole_valid, sized_digits}
use Rattle.rl_access.proofs.model.Model.whole.Goals as goal

pub returns-clause-valid : goal.returns-clause-valid
returns-clause-valid c =
    let m = c.args.self.now in
    let bytes : bytes_of m.chip (item.Reg c.args.reg) ≡ Some c.bytes-bytes.result = subst (λ (n : ModelData). bytes_of n.chip (item.Reg c.args.reg) ≡ Some c.bytes-bytes.result) c.self.view_is
    c.bytes-bytes.ensures.value in
    whole_valid m c.args.reg c.args.place c.args.value c.bytes-bytes.result c.all_bytes.result _ (subst IsModel c.self.view_is c.self.invariant) c.requires.reg c.requires.place c.requires.value
    (size_is m.chip (item.Reg c.args.reg) c.bytes-bytes.result bytes) c.bytes-bytes.ensures.range.0 c.all_bytes.ensures

pub returns-clause-digits : goal.returns-clause-digits
returns-clause-digits c =
    let m = c.args.self.now in
    sized_digits m c.args.reg c.args.place (subst IsModel c.self.view_is c.self.invariant) c.requires.place
