use Rattle.std.proofs.Common.{◌≡◌, length, sym, subst}
use Rattle.rl_desc.specs.Data.{DescData}
use Rattle.rl_grade.specs.Prelude.{IsBuiltWith, TasksFit, fresh_standings, kinds_of}
use Rattle.rl_grade.proofs.Rounds.{answers_of}
use Rattle.rl_grade.proofs.together.grade_together.Goals as goal

pub answer_all-requires-clause-built_with : goal.answer_all-requires-clause-built_with
answer_all-requires-clause-built_with g c =
    subst (λ (d : DescData). IsBuiltWith d.layout d.chip) (sym c.in_ok-rounds.ensures.desc) c.requires.built_with

pub answer_all-requires-clause-kinds : goal.answer_all-requires-clause-kinds
answer_all-requires-clause-kinds g c =
    subst (λ (d : DescData). d.layout.kinds ≡ kinds_of fresh_standings) (sym c.in_ok-rounds.ensures.desc) c.requires.kinds

pub answer_all-requires-clause-fits : goal.answer_all-requires-clause-fits
answer_all-requires-clause-fits g c =
    subst (λ (d : DescData). TasksFit d.chip (length d.layout.maps) c.args.tasks.now) (sym c.in_ok-rounds.ensures.desc) c.requires.fits

pub returns-clause-answers : goal.returns-clause-answers
returns-clause-answers g c =
    answers_of c.args.desc c.args.tasks.now c.args.shown.now.seen.items c.answer_all.result _ _ c.in_ok-rounds.ensures.desc
    c.answer_all.ensures.graded
