use Rattle.std.proofs.Common.{arith, subst, sym}
use Rattle.rl_split.proofs.Policies.{has_row}
use Rattle.rl_split.proofs.Registers.{field_is, field_inside, IsInside}
use Rattle.rl_split.proofs.fields.field_at.Goals as goal

pub prove-unreachable-requires : goal.prove-unreachable-requires
prove-unreachable-requires c = omega (arith, c.if-prove.true, c.fields.ensures.count, c.requires)

pub returns : goal.returns
returns c =
    let chip = c.args.chip.now in
    let is = field_is chip c.args.field c.field.result c.requires c.field.ensures.value in
    let at = subst (IsInside chip) (sym is) (field_inside chip c.args.field c.fields.ensures.sound c.requires) in
    let h = has_row chip c.field.result.reg at.row at.row_is in
    record {
      value = is;
      reg = at.reg_in;
      some = at.some;
      inside = at.inside;
      row = omega (arith, at.last, h.first, h.count);
      few = c.fields.ensures.sound.fields;
    }
