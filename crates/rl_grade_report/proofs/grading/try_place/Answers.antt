use Rattle.std.proofs.Common.{rules}
use Rattle.std.proofs.lemmas.List.Elements.{All-append}
use Rattle.rl_flaw.specs.Flaws.{IsFlawOf}
use Rattle.rl_grade_report.specs.declared.verdict.Judged.{Judged}
use Rattle.rl_grade_report.proofs.grading.try_place.Goals as goal

pub judge-requires : goal.judge-requires
judge-requires c = rw (c.deref.ensures.value, c.in_ok-grade.ensures.desc) c.in_ok-grade.ensures.each

pub returns-clause-next : goal.returns-clause-next
returns-clause-next c =
    let d = c.args.progress.desc in
    record {
      desc_is = c.in_ok-grade.ensures.desc;
      number_is = search rules;
      judged_are = search rules;
      each = rw (c.in_ok-extend_from_slice.ensures.items, c.deref-2.ensures.value)
          (All-append (λ (x : Judged). IsFlawOf d.chip d.layout x.flaw) _ _ c.requires.each (rw c.in_ok-grade.ensures.desc at c.in_ok-here.ensures.each));
      known_is = search rules;
    }
