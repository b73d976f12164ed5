use Rattle.rl_desc.proofs.FirstLemmas.{later, here}
use Rattle.rl_desc.proofs.StepLemmas.{stops}
use Rattle.rl_desc.proofs.read.mem_body.Goals as goal

pub returns-in_err-required-clause-bytes : goal.returns-in_err-required-clause-bytes
returns-in_err-required-clause-bytes c =
    stops (λ b. b.bytes) c.from_residual.result c.in_err-required.field-0.0 _ _ c.from_residual.ensures (λ other.
    here _ (c.in_err-required.ensures other))

pub returns-in_err-required-2-clause-bytes : goal.returns-in_err-required-2-clause-bytes
returns-in_err-required-2-clause-bytes c =
    stops (λ b. b.bytes) c.from_residual-in_err-required-2.result c.in_err-required-2.field-0.0 _ _ c.from_residual-in_err-required-2.ensures (λ other.
    later c.in_ok-required.ensures.0 (here _ (c.in_err-required-2.ensures other)))

pub returns-in_err-word_or-clause-bytes : goal.returns-in_err-word_or-clause-bytes
returns-in_err-word_or-clause-bytes c =
    stops (λ b. b.bytes) c.from_residual-in_err-word_or.result c.in_err-word_or.field-0.0 _ _ c.from_residual-in_err-word_or.ensures (λ other.
    later c.in_ok-required.ensures.0 (later c.in_ok-required-2.ensures.0 (here _ (c.in_err-word_or.ensures other))))

pub returns-in_err-held_or-clause-bytes : goal.returns-in_err-held_or-clause-bytes
returns-in_err-held_or-clause-bytes c =
    stops (λ b. b.bytes) c.from_residual-in_err-held_or.result c.in_err-held_or.field-0.0 _ _ c.from_residual-in_err-held_or.ensures (λ other.
    later c.in_ok-required.ensures.0 (later c.in_ok-required-2.ensures.0 (later c.in_ok-word_or.ensures.0 (here _ (c.in_err-held_or.ensures other)))))

pub returns-in_err-held_or-2-clause-bytes : goal.returns-in_err-held_or-2-clause-bytes
returns-in_err-held_or-2-clause-bytes c =
    stops (λ b. b.bytes) c.from_residual-in_err-held_or-2.result c.in_err-held_or-2.field-0.0 _ _ c.from_residual-in_err-held_or-2.ensures (λ other.
    later c.in_ok-required.ensures.0 (later c.in_ok-required-2.ensures.0 (later c.in_ok-word_or.ensures.0 (
    later c.in_ok-held_or.ensures.0 (here _ (c.in_err-held_or-2.ensures other))))))
