use Rattle.std.proofs.Common.{◌+◌, Vec, Global, refl, sym, ap, ◌∙◌, arith}
use Rattle.std.proofs.lemmas.List.{drop_more}
use Rattle.rl_flaw.specs.declared.flaw.Flaw.{Flaw}
use Rattle.rl_flaw.specs.declared.flaw.Flaw.TheVariants.{ErrorNth}
use Rattle.rl_grade.proofs.Rounds.{share_passed, share_taken}
use Rattle.rl_grade.proofs.together.push_share.Goals as goal
use Rattle.rl_grade.proofs.together.push_share.Goals.{then-takes+in_ok-push, else-takes}

pub loop-flaw-preserved : goal.loop-flaw-preserved
loop-flaw-preserved c =
    let i = c.loop-flaw.invariant in
    elim c.if-takes.branch [
      | then-takes+in_ok-push w ↦
          record {
            number_is = omega (arith, i.number_is);
            leads = share_taken c.args.share c.loop-flaw.number (c.loop-flaw.number + 1) _ _ _ c.loop-flaw.all.items _ _
                (drop_more c.args.flaws.now c.loop-flaw.flaw-index _ c.loop-flaw-test.true) refl
                (sym c.takes.ensures ∙ w.if-takes.true) (ap (λ (v : Vec Flaw Global). v.items) w.all-is ∙ w.in_ok-push.ensures.items) i.leads;
          }
      | else-takes w ↦
          record {
            number_is = omega (arith, i.number_is);
            leads = share_passed c.args.share c.loop-flaw.number (c.loop-flaw.number + 1) _ _ _ c.loop-flaw.all.items _ _
                (drop_more c.args.flaws.now c.loop-flaw.flaw-index (ErrorNth 0) c.loop-flaw-test.true) refl
                (sym c.takes.ensures ∙ w.if-takes.false) (ap (λ (v : Vec Flaw Global). v.items) w.all-is) i.leads;
          }
    ]
