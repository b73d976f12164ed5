use Rattle.rl_grade_report.proofs.PlaceLemmas.{fields_few, reg_pushed}
use Rattle.rl_grade_report.proofs.places.push_reg.Goals as goal

pub push_fields-requires : goal.push_fields-requires
push_fields-requires c =
    fields_few c.args.chip.now c.first_field-first.ensures.sound c.args.reg _ _ c.first_field-first.ensures.value c.field_count-count.ensures.value

pub returns : goal.returns
returns c =
    reg_pushed _ c.args.chip.now c.args.reg _ _ _ _ _ c.first_field-first.ensures.value c.field_count-count.ensures.value c.in_ok-push.ensures.items
    c.push_fields.ensures
