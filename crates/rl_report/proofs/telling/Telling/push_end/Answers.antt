use Rattle.rl_report.proofs.GatherLemmas.{pushed_two}
use Rattle.rl_report.proofs.telling.Telling.push_end.Goals as goal

pub returns-in-BusError-clause-text : goal.returns-in-BusError-clause-text
returns-in-BusError-clause-text c =
    rw c.in-BusError.is (pushed_two _ _ _ _ _ c.push-in-BusError.ensures.text (rw (c.as_bytes.ensures.value, c.format.ensures.text) at c.push-in-BusError-2.ensures.text))

pub returns-in-Refused-clause-text : goal.returns-in-Refused-clause-text
returns-in-Refused-clause-text c =
    rw c.in-Refused.is (pushed_two _ _ _ _ _ c.push-in-Refused.ensures.text (rw (c.why_text.ensures.value) at c.push-in-Refused-2.ensures.text))

pub push_value-requires-clause-fits : goal.push_value-requires-clause-fits
push_value-requires-clause-fits c = rw c.digits_of.ensures.value (rw c.in-Value.is at c.requires.fits.within)

pub push_value-requires-in-Sent-clause-fits : goal.push_value-requires-in-Sent-clause-fits
push_value-requires-in-Sent-clause-fits c = rw c.digits_of-in-Sent.ensures.value (rw c.in-Sent.is at c.requires.fits.within)

pub returns-in-Value-clause-text : goal.returns-in-Value-clause-text
returns-in-Value-clause-text c = rw c.in-Value.is (rw c.digits_of.ensures.value at c.push_value.ensures.text)

pub returns-in-Sent-clause-text : goal.returns-in-Sent-clause-text
returns-in-Sent-clause-text c = rw c.in-Sent.is (rw c.digits_of-in-Sent.ensures.value at c.push_value-in-Sent.ensures.text)
