use Rattle.std.proofs.Common.{sym, ◌∙◌}
use Rattle.rl_report.proofs.telling.Telling.push_desired.Goals as goal

pub returns-clause-text : goal.returns-clause-text
returns-clause-text c =
    let shown = sym c.shows_desired.ensures ∙ c.if-not-shows_desired.false in
    rw shown (rw (c.item_digits-digits.ensures.value) at c.push_value.ensures.text)

pub push_value-requires-clause-fits : goal.push_value-requires-clause-fits
push_value-requires-clause-fits c = rw c.item_digits-digits.ensures.value c.requires.desired
