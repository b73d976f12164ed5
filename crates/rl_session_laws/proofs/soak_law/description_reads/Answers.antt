use Rattle.rl_session_laws.proofs.SoakTable.{description_reads}
use Rattle.rl_session_laws.proofs.soak_law.description_reads.Goals as goal

pub returns : goal.returns
returns c = description_reads
