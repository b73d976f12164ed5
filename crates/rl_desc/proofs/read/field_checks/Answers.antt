use Rattle.rl_desc.proofs.FirstLemmas.{later, here}
use Rattle.rl_desc.proofs.StepLemmas.{stops}
use Rattle.rl_desc.proofs.read.field_checks.Goals as goal

pub returns-in_err-volatile-clause-volatile : goal.returns-in_err-volatile-clause-volatile
returns-in_err-volatile-clause-volatile c =
    stops (λ f. f.volatile) c.from_residual.result c.in_err-volatile.field-0.0 _ _ c.from_residual.ensures (λ other.
    here _ (c.in_err-volatile.ensures other))

pub returns-in_err-held_or-clause-volatile : goal.returns-in_err-held_or-clause-volatile
returns-in_err-held_or-clause-volatile c =
    stops (λ f. f.volatile) c.from_residual-in_err-held_or.result c.in_err-held_or.field-0.0 _ _ c.from_residual-in_err-held_or.ensures (λ other.
    later c.in_ok-volatile.ensures.0 (here _ (c.in_err-held_or.ensures other)))

pub returns-in_err-held_or-2-clause-volatile : goal.returns-in_err-held_or-2-clause-volatile
returns-in_err-held_or-2-clause-volatile c =
    stops (λ f. f.volatile) c.from_residual-in_err-held_or-2.result c.in_err-held_or-2.field-0.0 _ _ c.from_residual-in_err-held_or-2.ensures (λ other.
    later c.in_ok-volatile.ensures.0 (later c.in_ok-held_or.ensures.0 (here _ (c.in_err-held_or-2.ensures other))))

pub returns-in_err-held_or-3-clause-volatile : goal.returns-in_err-held_or-3-clause-volatile
returns-in_err-held_or-3-clause-volatile c =
    stops (λ f. f.volatile) c.from_residual-in_err-held_or-3.result c.in_err-held_or-3.field-0.0 _ _ c.from_residual-in_err-held_or-3.ensures (λ other.
    later c.in_ok-volatile.ensures.0 (later c.in_ok-held_or.ensures.0 (later c.in_ok-held_or-2.ensures.0 (here _ (c.in_err-held_or-3.ensures other)))))
