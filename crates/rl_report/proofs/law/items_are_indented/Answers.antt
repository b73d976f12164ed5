use Rattle.rl_report.proofs.EventLemmas.{items_are_left_out}
use Rattle.rl_report.proofs.law.items_are_indented.Goals as goal

pub returns : goal.returns
returns c = items_are_left_out
