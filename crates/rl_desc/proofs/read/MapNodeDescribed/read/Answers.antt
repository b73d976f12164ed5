use Rattle.rl_desc.proofs.FirstLemmas.{later, here}
use Rattle.rl_desc.proofs.StepLemmas.{stops}
use Rattle.rl_desc.proofs.read.MapNodeDescribed.read.Goals as goal

pub returns-in_err-only : goal.returns-in_err-only
returns-in_err-only c =
    stops (λ x. x) c.from_residual.result c.in_err-only.field-0.0 _ _ c.from_residual.ensures (λ other.
    here _ (c.in_err-only.ensures other))

pub returns-in_err-name : goal.returns-in_err-name
returns-in_err-name c =
    stops (λ x. x) c.from_residual-in_err-name.result c.in_err-name.field-0.0 _ _ c.from_residual-in_err-name.ensures (λ other.
    later c.in_ok-only.ensures.0 (here _ (c.in_err-name.ensures other)))

pub returns-in_err-bytes : goal.returns-in_err-bytes
returns-in_err-bytes c =
    stops (λ x. x) c.from_residual-in_err-bytes.result c.in_err-bytes.field-0.0 _ _ c.from_residual-in_err-bytes.ensures (λ other.
    later c.in_ok-only.ensures.0 (later c.in_ok-name.ensures.0 (here _ (c.in_err-bytes.ensures other))))

pub returns-in_err-kind : goal.returns-in_err-kind
returns-in_err-kind c =
    stops (λ x. x) c.from_residual-in_err-kind.result c.in_err-kind.field-0.0 _ _ c.from_residual-in_err-kind.ensures (λ other.
    later c.in_ok-only.ensures.0 (later c.in_ok-name.ensures.0 (later c.in_ok-bytes.ensures.0 (here _ (c.in_err-kind.ensures other)))))

pub returns-in_err-addressing : goal.returns-in_err-addressing
returns-in_err-addressing c =
    stops (λ x. x) c.from_residual-in_err-addressing.result c.in_err-addressing.field-0.0 _ _ c.from_residual-in_err-addressing.ensures (λ other.
    later c.in_ok-only.ensures.0 (later c.in_ok-name.ensures.0 (later c.in_ok-bytes.ensures.0 (
    later c.in_ok-kind.ensures.0 (here _ (c.in_err-addressing.ensures other))))))

pub returns-in_err-base : goal.returns-in_err-base
returns-in_err-base c =
    stops (λ x. x) c.from_residual-in_err-base.result c.in_err-base.field-0.0 _ _ c.from_residual-in_err-base.ensures (λ other.
    later c.in_ok-only.ensures.0 (later c.in_ok-name.ensures.0 (later c.in_ok-bytes.ensures.0 (later c.in_ok-kind.ensures.0 (
    later c.in_ok-addressing.ensures.0 (here _ (c.in_err-base.ensures other)))))))

pub returns-in_err-way : goal.returns-in_err-way
returns-in_err-way c =
    stops (λ x. x) c.from_residual-in_err-way.result c.in_err-way.field-0.0 _ _ c.from_residual-in_err-way.ensures (λ other.
    later c.in_ok-only.ensures.0 (later c.in_ok-name.ensures.0 (later c.in_ok-bytes.ensures.0 (later c.in_ok-kind.ensures.0 (
    later c.in_ok-addressing.ensures.0 (later c.in_ok-base.ensures.0 (c.in_err-way.ensures.parent other)))))))
