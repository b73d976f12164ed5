use Rattle.std.proofs.Common.{map, refl, sym, ◌∙◌}
use Rattle.rl_log.specs.declared.status.Status.TheVariants.{Memory}
use Rattle.std.proofs.KnownBytes.{Keeps-refl}
use Rattle.rl_session.specs.Judged.{soak_script_judged}
use Rattle.rl_session_run.proofs.JudgedLemmas.{all_early}
use Rattle.rl_session_run.proofs.SoakLemmas.{soak_told}
use Rattle.rl_session_run.proofs.SoakTextLemmas.{quiet_cause}
use Rattle.rl_session_run.proofs.soaking.soak_desc.Goals as goal

pub returns-in_default-clause-tells : goal.returns-in_default-clause-tells
returns-in_default-clause-tells g c =
    let here = (map (λ b. (goal.Adapter-dyn g (b.vtable, b.value)).standing b.value) c.args.adapters.now.items) in
    let text = g.L.Sink.written c.args.out.now in
    all_early _ (λ bytes. soak_script_judged c.args.n c.args.desc bytes here) Memory text text here refl (Keeps-refl text)

pub returns-then-not-is_complete-clause-tells : goal.returns-then-not-is_complete-clause-tells
returns-then-not-is_complete-clause-tells g c =
    let text = g.L.Sink.written c.args.out.now in
    let here = (map (λ b. (goal.Adapter-dyn g (b.vtable, b.value)).standing b.value) c.args.adapters.now.items) in
    all_early _ (λ bytes. soak_script_judged c.args.n c.args.desc bytes here) c.run_quietly-status.result text text _
    (sym c.is_complete.ensures ∙ c.if-not-is_complete.true) (Keeps-refl text)

pub returns-then-not-is_complete-clause-cause : goal.returns-then-not-is_complete-clause-cause
returns-then-not-is_complete-clause-cause g c = quiet_cause _ _ _ c.run_quietly-status.ensures.cause

pub returns-clause-tells : goal.returns-clause-tells
returns-clause-tells g c =
    soak_told c.args.n _ c.args.desc _ _ _ _ _ _ _ _ _ _ _ _ c.new-counts.ensures (c.in-Ok.ensures.first _)
    (sym c.is_complete.ensures ∙ c.if-not-is_complete.false) c.run_quietly-status.ensures.log
    (rw (c.mirror_sum-sum.ensures, c.mirror.ensures.mirror) at c.put_line.ensures.tells)
