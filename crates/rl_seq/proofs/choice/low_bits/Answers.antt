use Rattle.rl_seq.proofs.Choosing.{low_is}
use Rattle.rl_seq.proofs.choice.low_bits.Goals as goal

pub returns : goal.returns
returns c = low_is c.args.chip.now c.args.item c.args.value c.bytes.result c.mask.result c.bytes.ensures.value c.mask.ensures
