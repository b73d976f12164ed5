use Rattle.std.proofs.Common.{sym, ◌∙◌}
use Rattle.rl_report.proofs.telling.Telling.put_rest.Goals as goal

pub returns-in-Some-clause-bytes : goal.returns-in-Some-clause-bytes
returns-in-Some-clause-bytes g c =
    rw (sym c.is_refused.ensures ∙ c.if-is_refused.false, sym c.register_of.ensures.value ∙ c.in-Some.is) c.put_register.ensures.bytes

pub returns-in-Some-clause-stays : goal.returns-in-Some-clause-stays
returns-in-Some-clause-stays g c = c.put_register.ensures.stays

pub returns-in-None-clause-stays : goal.returns-in-None-clause-stays
returns-in-None-clause-stays g c = c.gather.ensures.stays

pub returns-in-None-clause-bytes : goal.returns-in-None-clause-bytes
returns-in-None-clause-bytes g c =
    rw (sym c.is_refused.ensures ∙ c.if-is_refused.false, sym c.register_of.ensures.value ∙ c.in-None.is, sym c.has_differ.ensures ∙ c.if-has_differ.true)
    c.gather.ensures.bytes

pub put_register-requires-clause-mirrored : goal.put_register-requires-clause-mirrored
put_register-requires-clause-mirrored g c = let values = rw (sym c.register_of.ensures.value ∙ c.in-Some.is) at c.requires.fits.values in values.0

pub put_register-requires-clause-desired : goal.put_register-requires-clause-desired
put_register-requires-clause-desired g c = let values = rw (sym c.register_of.ensures.value ∙ c.in-Some.is) at c.requires.fits.values in values.1
