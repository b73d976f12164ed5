use Rattle.rl_report.proofs.EventLemmas.{operations_read_back}
use Rattle.rl_report.proofs.law.operations_read_back.Goals as goal

pub returns : goal.returns
returns c = operations_read_back
