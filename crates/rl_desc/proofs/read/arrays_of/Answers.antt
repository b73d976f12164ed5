use Rattle.rl_desc.specs.Arrays.{rows_in}
use Rattle.rl_desc.proofs.FirstLemmas.{later, here}
use Rattle.rl_desc.proofs.StepLemmas.{stops}
use Rattle.rl_desc.proofs.read.arrays_of.Goals as goal

pub returns-in_err-only : goal.returns-in_err-only
returns-in_err-only c =
    stops rows_in c.from_residual.result c.in_err-only.field-0.0 _ _ c.from_residual.ensures (λ other.
    here _ (c.in_err-only.ensures other))

pub returns-in_err-rows : goal.returns-in_err-rows
returns-in_err-rows c =
    stops rows_in c.from_residual-in_err-rows.result c.in_err-rows.field-0.0 _ _ c.from_residual-in_err-rows.ensures (λ other.
    later c.in_ok-only.ensures.0 (here _ (c.in_err-rows.ensures other)))

pub returns-in_err-rows-2 : goal.returns-in_err-rows-2
returns-in_err-rows-2 c =
    stops rows_in c.from_residual-in_err-rows-2.result c.in_err-rows-2.field-0.0 _ _ c.from_residual-in_err-rows-2.ensures (λ other.
    later c.in_ok-only.ensures.0 (later c.in_ok-rows.ensures.0 (here _ (c.in_err-rows-2.ensures other))))

pub returns-in_err-rows-3 : goal.returns-in_err-rows-3
returns-in_err-rows-3 c =
    stops rows_in c.from_residual-in_err-rows-3.result c.in_err-rows-3.field-0.0 _ _ c.from_residual-in_err-rows-3.ensures (λ other.
    later c.in_ok-only.ensures.0 (later c.in_ok-rows.ensures.0 (later c.in_ok-rows-2.ensures.0 (here _ (c.in_err-rows-3.ensures other)))))

pub returns-in_err-rows-4 : goal.returns-in_err-rows-4
returns-in_err-rows-4 c =
    stops rows_in c.from_residual-in_err-rows-4.result c.in_err-rows-4.field-0.0 _ _ c.from_residual-in_err-rows-4.ensures (λ other.
    later c.in_ok-only.ensures.0 (later c.in_ok-rows.ensures.0 (later c.in_ok-rows-2.ensures.0 (
    later c.in_ok-rows-3.ensures.0 (here _ (c.in_err-rows-4.ensures other))))))

pub returns-in_err-rows-5 : goal.returns-in_err-rows-5
returns-in_err-rows-5 c =
    stops rows_in c.from_residual-in_err-rows-5.result c.in_err-rows-5.field-0.0 _ _ c.from_residual-in_err-rows-5.ensures (λ other.
    later c.in_ok-only.ensures.0 (later c.in_ok-rows.ensures.0 (later c.in_ok-rows-2.ensures.0 (later c.in_ok-rows-3.ensures.0 (
    later c.in_ok-rows-4.ensures.0 (here _ (c.in_err-rows-5.ensures other)))))))

pub returns-in_err-rows-6 : goal.returns-in_err-rows-6
returns-in_err-rows-6 c =
    stops rows_in c.from_residual-in_err-rows-6.result c.in_err-rows-6.field-0.0 _ _ c.from_residual-in_err-rows-6.ensures (λ other.
    later c.in_ok-only.ensures.0 (later c.in_ok-rows.ensures.0 (later c.in_ok-rows-2.ensures.0 (later c.in_ok-rows-3.ensures.0 (
    later c.in_ok-rows-4.ensures.0 (later c.in_ok-rows-5.ensures.0 (here _ (c.in_err-rows-6.ensures other))))))))

pub returns-in_err-rows-7 : goal.returns-in_err-rows-7
returns-in_err-rows-7 c =
    stops rows_in c.from_residual-in_err-rows-7.result c.in_err-rows-7.field-0.0 _ _ c.from_residual-in_err-rows-7.ensures (λ other.
    later c.in_ok-only.ensures.0 (later c.in_ok-rows.ensures.0 (later c.in_ok-rows-2.ensures.0 (later c.in_ok-rows-3.ensures.0 (
    later c.in_ok-rows-4.ensures.0 (later c.in_ok-rows-5.ensures.0 (later c.in_ok-rows-6.ensures.0 (here _ (c.in_err-rows-7.ensures other)))))))))
