use Rattle.rl_report.proofs.BuiltNames.{built_ones_have_names}
use Rattle.rl_report.proofs.law.built_ones_have_names.Goals as goal

pub returns : goal.returns
returns c = built_ones_have_names
