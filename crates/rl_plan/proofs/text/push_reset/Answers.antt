use Rattle.rl_plan.proofs.Texts.{reset_pushed}
use Rattle.rl_plan.proofs.text.push_reset.Goals as goal

pub returns : goal.returns
returns c = reset_pushed _ c.args.model.now c.args.kind _ _ _ c.kind_name.ensures c.push_pair.ensures
