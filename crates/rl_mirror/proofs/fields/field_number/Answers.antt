use Rattle.std.proofs.Common.{arith}
use Rattle.rl_mirror.proofs.FieldLemmas.{numbered}
use Rattle.rl_mirror.proofs.fields.field_number.Goals as goal

pub overflow_add-result : goal.overflow_add-result
overflow_add-result c =
    let n = numbered c.args.chip.now c.args.reg c.args.k c.first_field.result c.first_field.ensures.sound c.requires.reg c.requires.field c.first_field.ensures.value in
    omega (arith, n.fits)

pub returns : goal.returns
returns c =
    let n = numbered c.args.chip.now c.args.reg c.args.k c.first_field.result c.first_field.ensures.sound c.requires.reg c.requires.field c.first_field.ensures.value in
    record { number = n.number; within = n.within }
