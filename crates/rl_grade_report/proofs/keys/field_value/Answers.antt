use Rattle.rl_grade_report.proofs.KeyLemmas.{field_quoted}
use Rattle.rl_grade_report.proofs.keys.field_value.Goals as goal

pub returns : goal.returns
returns c =
    field_quoted c.args.chip.now c.args.field c.field-reg.result c.path.result.now c.field_name.result.now c.path.ensures c.field-reg.ensures.value
    c.field_name.ensures
