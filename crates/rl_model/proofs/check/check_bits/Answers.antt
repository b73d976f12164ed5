use Rattle.std.proofs.Common.{ap, arith}
use Rattle.rl_model.specs.Data.{FieldData}
use Rattle.rl_model.proofs.check.check_bits.Goals as goal

pub returns-clause-fits : goal.returns-clause-fits
returns-clause-fits c = omega (arith, c.if-field-gt-MOST_BITS.false, ap (λ (f : FieldData). f.width) c.field.view_is)

pub have_overlap-requires : goal.have_overlap-requires
have_overlap-requires c = omega (arith, c.if-field-lt1.false, ap (λ (f : FieldData). f.width) c.field.view_is)
