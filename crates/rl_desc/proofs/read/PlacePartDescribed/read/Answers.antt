use Rattle.rl_desc.proofs.FirstLemmas.{later, here}
use Rattle.rl_desc.proofs.StepLemmas.{stops}
use Rattle.rl_desc.proofs.read.PlacePartDescribed.read.Goals as goal

pub returns-in_err-only : goal.returns-in_err-only
returns-in_err-only c =
    stops (λ x. x) c.from_residual.result c.in_err-only.field-0.0 _ _ c.from_residual.ensures (λ other.
    here _ (c.in_err-only.ensures other))

pub returns-in_err-required : goal.returns-in_err-required
returns-in_err-required c =
    stops (λ x. x) c.from_residual-in_err-required.result c.in_err-required.field-0.0 _ _ c.from_residual-in_err-required.ensures (λ other.
    later c.in_ok-only.ensures.0 (here _ (c.in_err-required.ensures other)))

pub returns-in_err-required-2 : goal.returns-in_err-required-2
returns-in_err-required-2 c =
    stops (λ x. x) c.from_residual-in_err-required-2.result c.in_err-required-2.field-0.0 _ _ c.from_residual-in_err-required-2.ensures (λ other.
    later c.in_ok-only.ensures.0 (later c.in_ok-required.ensures.0 (here _ (c.in_err-required-2.ensures other))))

pub returns-in_err-held_or : goal.returns-in_err-held_or
returns-in_err-held_or c =
    stops (λ x. x) c.from_residual-in_err-held_or.result c.in_err-held_or.field-0.0 _ _ c.from_residual-in_err-held_or.ensures (λ other.
    later c.in_ok-only.ensures.0 (later c.in_ok-required.ensures.0 (later c.in_ok-required-2.ensures.0 (here _ (c.in_err-held_or.ensures other)))))

pub returns-in_err-word_or : goal.returns-in_err-word_or
returns-in_err-word_or c =
    stops (λ x. x) c.from_residual-in_err-word_or.result c.in_err-word_or.field-0.0 _ _ c.from_residual-in_err-word_or.ensures (λ other.
    later c.in_ok-only.ensures.0 (later c.in_ok-required.ensures.0 (later c.in_ok-required-2.ensures.0 (
    later c.in_ok-held_or.ensures.0 (here _ (c.in_err-word_or.ensures other))))))
