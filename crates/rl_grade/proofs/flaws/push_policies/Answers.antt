use Rattle.std.proofs.Common.{refl, sym, ◌∙◌}
use Rattle.std.proofs.lemmas.List.{take_more}
use Rattle.rl_policy.specs.declared.policy.TheConstants.{POLICIES}
use Rattle.rl_grade.proofs.Pushed.{policy_more, policy_passed}
use Rattle.rl_grade.proofs.flaws.push_policies.Goals as goal
use Rattle.rl_grade.proofs.flaws.push_policies.Goals.{then-not-is_same+in_ok-push, else-not-is_same}

pub loop-policy-preserved : goal.loop-policy-preserved
loop-policy-preserved c =
    elim c.if-not-is_same.branch [
      | then-not-is_same+in_ok-push w ↦
          rw w.flaws-is (policy_more _ _ _ _ _ _ _ _ (sym c.is_same.ensures ∙ w.if-not-is_same.true)
          (take_more POLICIES c.loop-policy.policy-index _ c.loop-policy-test.true) c.loop-policy.invariant w.in_ok-push.ensures.items)
      | else-not-is_same w ↦
          rw w.flaws-is (policy_passed _ _ _ _ _ _ _ _ (sym c.is_same.ensures ∙ w.if-not-is_same.false)
          (take_more POLICIES c.loop-policy.policy-index _ c.loop-policy-test.true) c.loop-policy.invariant refl)
    ]
