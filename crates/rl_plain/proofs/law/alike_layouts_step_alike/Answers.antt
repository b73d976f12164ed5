use Rattle.rl_plain.proofs.Alike.{alike_layouts_step_alike}
use Rattle.rl_plain.proofs.law.alike_layouts_step_alike.Goals as goal

pub returns : goal.returns
returns c = alike_layouts_step_alike
