use Rattle.rl_session_laws.proofs.SoakOpening.{soak_reads}
use Rattle.rl_session_laws.proofs.soak_law.script_reads.Goals as goal

pub returns : goal.returns
returns c = soak_reads
