use Rattle.rl_mirror.proofs.FieldLemmas.{field_at_is}
use Rattle.rl_mirror.proofs.fields.field_at.Goals as goal

pub returns : goal.returns
returns c =
    let at = field_at_is c.args.chip.now c.args.reg c.args.k c.field_number.result c.field.result c.field.ensures.sound c.requires.reg c.requires.field c.field_number.ensures.number
    c.field_number.ensures.within c.field.ensures.value in
    record { field = at.field; some = at.some; inside = at.inside }
