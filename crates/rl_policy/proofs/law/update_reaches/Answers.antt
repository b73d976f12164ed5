use Rattle.rl_policy.proofs.TableLemmas.{update_reaches}
use Rattle.rl_policy.proofs.law.update_reaches.Goals as goal

pub returns : goal.returns
returns c = update_reaches
