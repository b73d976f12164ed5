use Rattle.std.proofs.Common.{Vec, Global, Option, ℕ, sym, ap, subst, ◌∙◌}
use Rattle.std.proofs.lemmas.List.{get_or_default}
use Rattle.rl_flaw.specs.declared.flaw.Flaw.TheVariants.{ErrorNth}
use Rattle.rl_grade.specs.Sorted.{IsBlank}
use Rattle.rl_grade.specs.Together.{register_with}
use Rattle.rl_grade.proofs.Batching.{chosen_more, none_chosen}
use Rattle.rl_grade.proofs.batch.choose.Goals as goal
use Rattle.rl_grade.proofs.batch.choose.Goals.{then-is_open, else-is_open}

pub loop-number-init : goal.loop-number-init
loop-number-init c =
    none_chosen _ _ _ (subst (λ n. IsBlank n c.in_ok-chosen.chosen.items) c.regs.ensures.count c.in_ok-chosen.ensures)

pub loop-number-preserved : goal.loop-number-preserved
loop-number-preserved c =
    let flaws = c.args.flaws.now in
    let n = c.loop-number.number in
    elim c.if-is_open.branch [
      | then-is_open w ↦
          chosen_more c.args.chip.now flaws n _ _ _ c.loop-number.invariant
          (w.register_with-reg.ensures.value ∙ ap (register_with c.args.chip.now) (get_or_default flaws n _ (ErrorNth 0) c.loop-number-test.true))
          c.loop-number-test.true (ap (λ (v : Vec (Option ℕ) Global). v.items) w.chosen-is ∙ w.keep_number.ensures)
      | else-is_open w ↦ rw w.chosen-is c.loop-number.invariant
    ]
