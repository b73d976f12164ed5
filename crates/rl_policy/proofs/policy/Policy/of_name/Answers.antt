use Rattle.rl_policy.specs.declared.policy.TheConstants.{POLICIES}
use Rattle.rl_policy.proofs.TableLemmas.{found_named}
use Rattle.rl_policy.proofs.policy.Policy.of_name.Goals as goal

pub returns-clause-found : goal.returns-clause-found
returns-clause-found c = found_named _ POLICIES _ c.first_named.ensures
