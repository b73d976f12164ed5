use Rattle.rl_report.proofs.OperationLemmas.{number_pushed}
use Rattle.rl_report.proofs.operation.push_number.Goals as goal

pub returns-clause-text : goal.returns-clause-text
returns-clause-text c = number_pushed _ _ _ c.args.n c.push.ensures.text c.push_hex.ensures.text
