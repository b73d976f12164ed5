use Rattle.std.proofs.Common.{◌≡◌, ◌+◌, ◌≤◌, length, refl, sym, ap, subst, ◌∙◌, arith}
use Rattle.std.proofs.lemmas.List.{drop_all, drop_more}
use Rattle.rl_flaw.specs.declared.flaw.Flaw.TheVariants.{ErrorNth}
use Rattle.rl_grade.specs.declared.grade.Known.{Known}
use Rattle.rl_grade.specs.declared.grade.Tries.{Tries}
use Rattle.rl_desc.specs.Data.{DescData}
use Rattle.rl_grade.specs.Prelude.{IsBuiltWith, TasksFit, fresh_standings, kinds_of}
use Rattle.rl_grade.proofs.Finding.{flaw_again}
use Rattle.rl_grade.proofs.Grading.{flaw_passed, flaw_taken, flaws_end}
use Rattle.rl_grade.proofs.Rounds.{answer_known}
use Rattle.rl_grade.proofs.grade.grade_flaws.Goals as goal
use Rattle.rl_grade.proofs.grade.grade_flaws.Goals.{then-takes+in_ok-tries, else-takes}

pub push_answer-requires-clause-built_with : goal.push_answer-requires-clause-built_with
push_answer-requires-clause-built_with c =
    subst (λ (d : DescData). IsBuiltWith d.layout d.chip) (sym c.loop-flaw.invariant.same) c.requires.built_with

pub push_answer-requires-clause-kinds : goal.push_answer-requires-clause-kinds
push_answer-requires-clause-kinds c =
    subst (λ (d : DescData). d.layout.kinds ≡ kinds_of fresh_standings) (sym c.loop-flaw.invariant.same) c.requires.kinds

pub push_answer-requires-clause-fits : goal.push_answer-requires-clause-fits
push_answer-requires-clause-fits c =
    subst (λ (d : DescData). TasksFit d.chip (length d.layout.maps) c.args.tasks.now) (sym c.loop-flaw.invariant.same) c.requires.fits

pub push_answer-requires-clause-flaw : goal.push_answer-requires-clause-flaw
push_answer-requires-clause-flaw c =
    flaw_again _ c.args.desc c.args.flaws.now c.loop-flaw.flaw-index _ c.loop-flaw.invariant.same c.requires.flaws c.loop-flaw-test.true

pub push_answer-requires-clause-known : goal.push_answer-requires-clause-known
push_answer-requires-clause-known c =
    let i = c.loop-flaw.invariant in
    answer_known c.args.desc c.args.tasks.now c.args.shown.now c.loop-flaw.tries.desc _ _ c.take-it.result
    (rw i.kept c.requires.known) i.same c.take-it.ensures.flaw c.take-it.ensures.known

pub loop-flaw-preserved : goal.loop-flaw-preserved
loop-flaw-preserved c =
    let i = c.loop-flaw.invariant in
    elim c.if-takes.branch [
      | then-takes+in_ok-tries w ↦
          let e = w.in_ok-tries.ensures in
          record {
            same = ap (λ (t : Tries). t.desc) w.tries-is ∙ e.desc ∙ i.same;
            reached_is = omega (arith, i.reached_is);
            leads = flaw_taken c.args.desc c.args.tasks.now c.args.shown.now c.args.share c.loop-flaw.tries.desc c.loop-flaw.reached
                (c.loop-flaw.reached + 1) _ _ _ c.loop-flaw.tries.graded.items _ _ i.same
                (drop_more c.args.flaws.now c.loop-flaw.flaw-index _ c.loop-flaw-test.true) refl
                (sym c.takes.ensures ∙ w.if-takes.true) (ap (λ (t : Tries). t.graded.items) w.tries-is ∙ e.graded) i.leads;
            kept = ap (λ (k : Known). k.graded) w.known-is ∙ w.take-it.ensures.kept ∙ i.kept;
          }
      | else-takes w ↦
          record {
            same = ap (λ (t : Tries). t.desc) w.tries-is ∙ i.same;
            reached_is = omega (arith, i.reached_is);
            leads = flaw_passed c.args.desc c.args.tasks.now c.args.shown.now c.args.share c.loop-flaw.reached (c.loop-flaw.reached + 1)
                _ _ _ c.loop-flaw.tries.graded.items _ _
                (drop_more c.args.flaws.now c.loop-flaw.flaw-index (ErrorNth 0) c.loop-flaw-test.true) refl
                (sym c.takes.ensures ∙ w.if-takes.false) (ap (λ (t : Tries). t.graded.items) w.tries-is) i.leads;
            kept = ap (λ (k : Known). k.graded) w.known-is ∙ i.kept;
          }
    ]

pub returns-in_err-tries-clause-known : goal.returns-in_err-tries-clause-known
returns-in_err-tries-clause-known c = c.take-it.ensures.kept ∙ c.loop-flaw.invariant.kept

pub returns-clause-known : goal.returns-clause-known
returns-clause-known c = c.loop-flaw.invariant.kept

pub returns-clause-desc : goal.returns-clause-desc
returns-clause-desc c = c.loop-flaw.invariant.same

pub returns-clause-graded : goal.returns-clause-graded
returns-clause-graded c =
    let all : length c.args.flaws.now ≤ c.loop-flaw.flaw-index = omega (arith, c.loop-flaw-test.false) in
    flaws_end c.args.desc c.args.tasks.now c.args.shown.now c.args.share c.loop-flaw.reached _ c.loop-flaw.tries.graded.items _
    (drop_all c.loop-flaw.flaw-index c.args.flaws.now all) c.loop-flaw.invariant.leads
