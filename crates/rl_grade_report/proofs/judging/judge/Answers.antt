use Rattle.std.proofs.Common.{take}
use Rattle.std.proofs.lemmas.List.Elements.{All-take}
use Rattle.rl_flaw.specs.Flaws.{IsFlawOf}
use Rattle.rl_grade.specs.declared.grade.Graded.{Graded}
use Rattle.rl_grade_report.proofs.Flaws.{judged_are}
use Rattle.rl_grade_report.proofs.judging.judge.Goals as goal

pub returns-clause-each : goal.returns-clause-each
returns-clause-each c =
    let d = c.args.desc.now in
    let graded = c.args.graded.now in
    let k = c.loop-it.it-index in
    rw c.loop-it.invariant (judged_are d c.args.waivers.now (take k graded) (All-take (λ (g : Graded). IsFlawOf d.chip d.layout g.flaw) k graded c.requires))
