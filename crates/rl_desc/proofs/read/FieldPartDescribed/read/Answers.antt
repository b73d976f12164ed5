use Rattle.rl_desc.proofs.FirstLemmas.{later, here}
use Rattle.rl_desc.proofs.StepLemmas.{stops}
use Rattle.rl_desc.proofs.read.FieldPartDescribed.read.Goals as goal

pub returns-in_err-only : goal.returns-in_err-only
returns-in_err-only c =
    stops (λ x. x) c.from_residual.result c.in_err-only.field-0.0 _ _ c.from_residual.ensures (λ other.
    here _ (c.in_err-only.ensures other))

pub returns-in_err-name : goal.returns-in_err-name
returns-in_err-name c =
    stops (λ x. x) c.from_residual-in_err-name.result c.in_err-name.field-0.0 _ _ c.from_residual-in_err-name.ensures (λ other.
    later c.in_ok-only.ensures.0 (here _ (c.in_err-name.ensures other)))

pub returns-in_err-lsb : goal.returns-in_err-lsb
returns-in_err-lsb c =
    stops (λ x. x) c.from_residual-in_err-lsb.result c.in_err-lsb.field-0.0 _ _ c.from_residual-in_err-lsb.ensures (λ other.
    later c.in_ok-only.ensures.0 (later c.in_ok-name.ensures.0 (here _ (c.in_err-lsb.ensures other))))

pub returns-in_err-width : goal.returns-in_err-width
returns-in_err-width c =
    stops (λ x. x) c.from_residual-in_err-width.result c.in_err-width.field-0.0 _ _ c.from_residual-in_err-width.ensures (λ other.
    later c.in_ok-only.ensures.0 (later c.in_ok-name.ensures.0 (later c.in_ok-lsb.ensures.0 (here _ (c.in_err-width.ensures other)))))

pub returns-in_err-policy : goal.returns-in_err-policy
returns-in_err-policy c =
    stops (λ x. x) c.from_residual-in_err-policy.result c.in_err-policy.field-0.0 _ _ c.from_residual-in_err-policy.ensures (λ other.
    later c.in_ok-only.ensures.0 (later c.in_ok-name.ensures.0 (later c.in_ok-lsb.ensures.0 (
    later c.in_ok-width.ensures.0 (here _ (c.in_err-policy.ensures other))))))

pub returns-in_err-checks : goal.returns-in_err-checks
returns-in_err-checks c =
    stops (λ x. x) c.from_residual-in_err-checks.result c.in_err-checks.field-0.0 _ _ c.from_residual-in_err-checks.ensures (λ other.
    later c.in_ok-only.ensures.0 (later c.in_ok-name.ensures.0 (later c.in_ok-lsb.ensures.0 (later c.in_ok-width.ensures.0 (
    later c.in_ok-policy.ensures.0 (c.in_err-checks.ensures.volatile other))))))
