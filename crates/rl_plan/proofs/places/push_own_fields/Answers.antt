use Rattle.rl_plan.proofs.PlaceLemmas.{fields_few, fields_pushed}
use Rattle.rl_plan.proofs.places.push_own_fields.Goals as goal

pub push_fields-requires : goal.push_fields-requires
push_fields-requires c =
    fields_few c.args.chip.now c.first_field-first.ensures.sound c.in-Reg.reg _ _ c.first_field-first.ensures.value c.field_count.ensures.value

pub returns-in-Reg : goal.returns-in-Reg
returns-in-Reg c =
    rw c.in-Reg.is (fields_pushed _ c.args.chip.now c.in-Reg.reg _ _ _ _ c.first_field-first.ensures.value c.field_count.ensures.value c.push_fields.ensures)
