use Rattle.std.proofs.KnownBytes.{Keeps-refl}
use Rattle.rl_flaw.specs.Flaws.{IsFlawOf}
use Rattle.rl_log.proofs.KnownLemmas.{front_none}
use Rattle.rl_grade_report.specs.declared.verdict.Judged.{Judged}
use Rattle.rl_grade_report.proofs.Placed.{last_judged}
use Rattle.rl_grade_report.proofs.grading.grade_next.Goals as goal

pub returns-in_default-clause-bytes : goal.returns-in_default-clause-bytes
returns-in_default-clause-bytes g c = record { whole = tt; part = front_none _ _ _ (Keeps-refl _) }

pub put_place-requires-clause-flaws : goal.put_place-requires-clause-flaws
put_place-requires-clause-flaws g c =
    let d = c.args.progress.desc in
    let next = c.in-Ok.ensures.next in
    rw (c.deref.ensures.value, next.desc_is)
    (last_judged (λ (x : Judged). IsFlawOf d.chip d.layout x.flaw) _ _ _ _ c.in-Ok.ensures.here next.judged_are next.each)
