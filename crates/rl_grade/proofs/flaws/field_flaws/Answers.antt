use Rattle.rl_policy.specs.declared.policy.TheConstants.{POLICIES}
use Rattle.rl_grade.proofs.Pushed.{all_of_field}
use Rattle.rl_grade.proofs.flaws.field_flaws.Goals as goal

pub returns : goal.returns
returns c =
    all_of_field c.args.chip.now c.args.field c.field-shape.result POLICIES _ _ _ _ _ c.field-shape.ensures.value c.new-flaws.ensures.items
    c.in_ok-push_stuck.ensures c.in_ok-push_stuck-2.ensures c.in_ok-push_resets.ensures c.in_ok-push_policies.ensures
