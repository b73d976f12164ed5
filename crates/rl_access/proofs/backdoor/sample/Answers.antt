use Rattle.rl_access.proofs.BackPerforms.{read_behind}
use Rattle.rl_access.proofs.backdoor.sample.Goals as goal

pub returns-clause-behind : goal.returns-clause-behind
returns-clause-behind g c =
    read_behind c.args.model.now c.predict_read.new.self _ _ _ _ c.args.check c.args.reg c.sampled-sampled.result c.value_shown-value.result c.value_left-left.result c.differ-differ.result
    c.sampled-sampled.ensures.found c.value_shown-value.ensures.value c.value_left-left.ensures c.deposit.ensures.step c.differ-differ.ensures.value c.predict_read.ensures c.deposit.ensures.asked
