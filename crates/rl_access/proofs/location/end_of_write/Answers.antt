use Rattle.std.proofs.Common.{ap, sym, ◌∙◌}
use Rattle.rl_access.specs.declared.event.End.TheVariants as end
use Rattle.rl_access.specs.Rules.{or_error, quiet}
use Rattle.rl_access.proofs.location.end_of_write.Goals as goal

pub returns-in-None-clause-end : goal.returns-in-None-clause-end
returns-in-None-clause-end c model = ap (λ failed. (or_error failed model (quiet end.Done model)).end) (sym c.in-None.is ∙ c.failed_at.ensures)

pub returns-in-Some-clause-end : goal.returns-in-Some-clause-end
returns-in-Some-clause-end c model = ap (λ failed. (or_error failed model (quiet end.Done model)).end) (sym c.in-Some.is ∙ c.failed_at.ensures)
