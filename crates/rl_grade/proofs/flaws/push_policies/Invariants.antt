-- The other ones of the policies so far were appended.
use Rattle.std.proofs.Common.{◌≡◌, ◌++◌, take}
use Rattle.rl_policy.specs.declared.policy.TheConstants.{POLICIES}
use Rattle.rl_grade.specs.Flaws.{other_policies}
use Rattle.rl_grade.proofs.flaws.push_policies.Given as goal

abbrev pub invariant-loop-policy : goal.invariant-loop-policy
invariant-loop-policy l =
    l.flaws.items ≡ l.initial.flaws.items ++ other_policies l.field l.own (take l.policy-index POLICIES)
