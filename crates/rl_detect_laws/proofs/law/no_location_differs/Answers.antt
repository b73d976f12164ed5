use Rattle.rl_detect_laws.proofs.Walked.{no_location_differs}
use Rattle.rl_detect_laws.proofs.law.no_location_differs.Goals as goal

pub returns : goal.returns
returns c = no_location_differs
