use Rattle.std.proofs.Common.{◌≡◌, ◌≤◌, None, length, sym, ap, subst, ◌∙◌, arith}
use Rattle.std.specs.Prelude.{slice_index_or}
use Rattle.std.proofs.lemmas.List.{drop_all, drop_more, get_or_default}
use Rattle.rl_desc.specs.Data.{DescData}
use Rattle.rl_flaw.specs.declared.flaw.Flaw.TheVariants.{ErrorNth}
use Rattle.rl_grade.specs.Prelude.{IsBuiltWith, TasksFit, fresh_standings, kinds_of}
use Rattle.rl_grade.proofs.Finding.{flaw_again}
use Rattle.rl_grade.proofs.Rounds.{answered_end, answered_next, known_here}
use Rattle.rl_grade.proofs.together.answer_all.Goals as goal

pub push_answer-requires-clause-built_with : goal.push_answer-requires-clause-built_with
push_answer-requires-clause-built_with g c =
    subst (λ (d : DescData). IsBuiltWith d.layout d.chip) (sym c.loop-number.invariant.same) c.requires.built_with

pub push_answer-requires-clause-kinds : goal.push_answer-requires-clause-kinds
push_answer-requires-clause-kinds g c =
    subst (λ (d : DescData). d.layout.kinds ≡ kinds_of fresh_standings) (sym c.loop-number.invariant.same) c.requires.kinds

pub push_answer-requires-clause-fits : goal.push_answer-requires-clause-fits
push_answer-requires-clause-fits g c =
    subst (λ (d : DescData). TasksFit d.chip (length d.layout.maps) c.args.tasks.now) (sym c.loop-number.invariant.same) c.requires.fits

pub push_answer-requires-clause-flaw : goal.push_answer-requires-clause-flaw
push_answer-requires-clause-flaw g c =
    flaw_again _ c.args.rounds.desc c.args.flaws.now c.loop-number.number _ c.loop-number.invariant.same c.requires.flaws c.loop-number-test.true

pub push_answer-requires-clause-known : goal.push_answer-requires-clause-known
push_answer-requires-clause-known g c =
    let flaws = c.args.flaws.now in
    let n = c.loop-number.number in
    rw (c.loop-number.invariant.same, c.deref-in-loop-number.ensures.value)
    (known_here c.args.rounds.desc c.args.tasks.now c.args.shown.now.seen.items flaws _ n _ _ c.requires.known
    (c.known_at-it.ensures ∙ ap (λ xs. slice_index_or xs n None) c.deref.ensures.value)
    (get_or_default flaws n _ (ErrorNth 0) c.loop-number-test.true))

pub loop-number-preserved : goal.loop-number-preserved
loop-number-preserved g c =
    let i = c.loop-number.invariant in
    let e = c.in_ok-tries.ensures in
    record {
      same = e.desc ∙ i.same;
      leads = answered_next c.args.rounds.desc c.args.tasks.now c.args.shown.now.seen.items _ _ _ _ _ _ _ i.same
          (drop_more c.args.flaws.now c.loop-number.number _ c.loop-number-test.true)
          (rw c.deref-in-loop-number.ensures.value at e.graded) i.leads;
    }

pub returns-clause-desc : goal.returns-clause-desc
returns-clause-desc g c = c.loop-number.invariant.same

pub returns-clause-graded : goal.returns-clause-graded
returns-clause-graded g c =
    let all : length c.args.flaws.now ≤ c.loop-number.number = omega (arith, c.loop-number-test.false) in
    answered_end c.args.rounds.desc c.args.tasks.now c.args.shown.now.seen.items _ c.loop-number.tries.graded.items _
    (drop_all c.loop-number.number c.args.flaws.now all) c.loop-number.invariant.leads
