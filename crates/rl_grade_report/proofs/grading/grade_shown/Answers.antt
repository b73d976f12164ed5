use Rattle.std.proofs.KnownBytes.{Keeps-refl}
use Rattle.rl_log.proofs.KnownLemmas.{front_none}
use Rattle.rl_grade_report.proofs.grading.grade_shown.Goals as goal

pub returns-in_default-clause-bytes : goal.returns-in_default-clause-bytes
returns-in_default-clause-bytes g c = record { whole = tt; part = front_none _ _ _ (Keeps-refl _) }
