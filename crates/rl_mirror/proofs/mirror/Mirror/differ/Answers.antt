use Rattle.std.proofs.Common.{ap, ◌∙◌}
use Rattle.rl_mirror.specs.Compared.{differ, differing}
use Rattle.rl_model.specs.Fields.{fields_of}
use Rattle.rl_mirror.proofs.mirror.Mirror.differ.Goals as goal

pub returns-clause-value : goal.returns-clause-value
unfolding differ
returns-clause-value c = c.differing.ensures.value ∙ ap (differing (fields_of c.args.chip.now c.args.reg) c.args.read) c.mirrored.ensures
