use Rattle.rl_grade.proofs.UncheckedFinds.{never_found}
use Rattle.rl_grade.proofs.law.a_hidden_flaw_is_never_found.Goals as goal

pub returns : goal.returns
returns c = record { found = never_found }
