use Rattle.rl_report.proofs.GatherLemmas.{gathers_more, gathers_two, gathers_last, pushed}
use Rattle.rl_report.proofs.telling.Telling.put_register.Goals as goal

pub returns-clause-bytes : goal.returns-clause-bytes
returns-clause-bytes g c =
    gathers_more _ _ _ _ _ _ _ _ _ (pushed _ _ _ _ c.push_desired.ensures.text)
    (gathers_two _ _ _ _ _ _ _ _ _ _ (pushed _ _ _ _ (rw (c.item_digits-digits.ensures.value) at c.push_value.ensures.text)) (gathers_last _ _ _ _ _ _ c.put_differ.ensures.bytes))

pub returns-clause-stays : goal.returns-clause-stays
returns-clause-stays g c = c.put_differ.ensures.stays
