use Rattle.rl_detect_laws.proofs.Unseen.{new_ones_agree_but, other_policy_is_never_named, other_policy_tells_nothing, policies_written_alike}
use Rattle.rl_detect_laws.proofs.law.other_policy_is_never_named.Goals as goal

pub returns : goal.returns
returns c = record {
  alike = other_policy_tells_nothing;
  never = other_policy_is_never_named;
  policies = policies_written_alike;
  first = new_ones_agree_but;
}
