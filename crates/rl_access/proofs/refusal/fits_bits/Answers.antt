use Rattle.rl_access.proofs.Rights.{most_below}
use Rattle.rl_access.proofs.refusal.fits_bits.Goals as goal

pub returns : goal.returns
returns c = most_below c.args.value c.args.width c.mask.result c.mask.ensures
