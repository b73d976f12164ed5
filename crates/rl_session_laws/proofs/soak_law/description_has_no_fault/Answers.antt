use Rattle.rl_session_laws.proofs.SoakNoFault.{no_fault}
use Rattle.rl_session_laws.proofs.soak_law.description_has_no_fault.Goals as goal

pub returns : goal.returns
returns c = no_fault
