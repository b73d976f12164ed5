use Rattle.rl_desc.proofs.FirstLemmas.{later, here}
use Rattle.rl_desc.proofs.StepLemmas.{stops}
use Rattle.rl_desc.proofs.read.RegPartDescribed.read.Goals as goal

pub returns-in_err-only : goal.returns-in_err-only
returns-in_err-only c =
    stops (λ x. x) c.from_residual.result c.in_err-only.field-0.0 _ _ c.from_residual.ensures (λ other.
    here _ (here _ (c.in_err-only.ensures other)))

pub returns-in_err-name : goal.returns-in_err-name
returns-in_err-name c =
    stops (λ x. x) c.from_residual-in_err-name.result c.in_err-name.field-0.0 _ _ c.from_residual-in_err-name.ensures (λ other.
    here _ (later c.in_ok-only.ensures.0 (here _ (c.in_err-name.ensures other))))

pub returns-in_err-of : goal.returns-in_err-of
returns-in_err-of c =
    stops (λ x. x) c.from_residual-in_err-of.result c.in_err-of.field-0.0 _ _ c.from_residual-in_err-of.ensures (λ other.
    here _ (later c.in_ok-only.ensures.0 (later c.in_ok-name.ensures.0 (here _ (c.in_err-of.ensures other)))))

pub returns-in_err-body : goal.returns-in_err-body
returns-in_err-body c =
    stops (λ x. x) c.from_residual-in_err-body.result c.in_err-body.field-0.0 _ _ c.from_residual-in_err-body.ensures (λ other.
    here _ (later c.in_ok-only.ensures.0 (later c.in_ok-name.ensures.0 (later c.in_ok-of.ensures.0 (c.in_err-body.ensures.bytes other)))))
