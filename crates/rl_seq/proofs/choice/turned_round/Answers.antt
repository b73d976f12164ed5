use Rattle.std.proofs.Common.{arith}
use Rattle.rl_seq.proofs.Choosing.{is_turned}
use Rattle.rl_seq.proofs.choice.turned_round.Goals as goal

pub returns : goal.returns
returns c = is_turned c.args.chip.now c.args.item c.args.value c.bytes.result c.mask.result (omega arith)
    (omega arith) c.bytes.ensures.value c.mask.ensures
