use Rattle.rl_desc.proofs.FirstLemmas.{later, here}
use Rattle.rl_desc.proofs.StepLemmas.{stops}
use Rattle.rl_desc.proofs.read.map_way.Goals as goal

pub returns-in_err-optional-clause-parent : goal.returns-in_err-optional-clause-parent
returns-in_err-optional-clause-parent c =
    stops (λ w. w.parent) c.from_residual.result c.in_err-optional.field-0.0 _ _ c.from_residual.ensures (λ other.
    here _ (c.in_err-optional.ensures other))

pub returns-in_err-held_or-clause-parent : goal.returns-in_err-held_or-clause-parent
returns-in_err-held_or-clause-parent c =
    stops (λ w. w.parent) c.from_residual-in_err-held_or.result c.in_err-held_or.field-0.0 _ _ c.from_residual-in_err-held_or.ensures (λ other.
    later c.in_ok-optional.ensures.0 (here _ (c.in_err-held_or.ensures other)))

pub returns-in_err-adapter-clause-parent : goal.returns-in_err-adapter-clause-parent
returns-in_err-adapter-clause-parent c =
    stops (λ w. w.parent) c.from_residual-in_err-adapter.result c.in_err-adapter.field-0.0 _ _ c.from_residual-in_err-adapter.ensures (λ other.
    later c.in_ok-optional.ensures.0 (later c.in_ok-held_or.ensures.0 (here _ (c.in_err-adapter.ensures other))))

pub returns-in_err-word_or-clause-parent : goal.returns-in_err-word_or-clause-parent
returns-in_err-word_or-clause-parent c =
    stops (λ w. w.parent) c.from_residual-in_err-word_or.result c.in_err-word_or.field-0.0 _ _ c.from_residual-in_err-word_or.ensures (λ other.
    later c.in_ok-optional.ensures.0 (later c.in_ok-held_or.ensures.0 (later c.in_ok-adapter.ensures.0 (here _ (c.in_err-word_or.ensures other)))))
