use Rattle.rl_policy.proofs.TableLemmas.{keeps_reach}
use Rattle.rl_policy.proofs.law.reach_is_kept.Goals as goal

pub returns : goal.returns
returns c = keeps_reach
