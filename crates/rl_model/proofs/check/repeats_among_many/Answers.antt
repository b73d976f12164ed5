use Rattle.std.proofs.Common.{arith}
use Rattle.std.proofs.lemmas.Grind.{common_steps}
use Rattle.rl_model.proofs.Repeats.{clashes-none}
use Rattle.rl_model.proofs.check.repeats_among_many.Goals as goal

pub returns : goal.returns
returns c = let none = clashes-none c.args.resets.now in grind (arith, common_steps, none)
