use Rattle.rl_grade_report.proofs.PlaceLemmas.{field_more}
use Rattle.rl_grade_report.proofs.places.push_fields.Goals as goal

pub loop-field-preserved : goal.loop-field-preserved
loop-field-preserved c = field_more _ _ _ _ _ c.loop-field.invariant c.in_ok-push.ensures.items
