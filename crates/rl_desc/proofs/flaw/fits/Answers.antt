use Rattle.std.proofs.Common.{arith}
use Rattle.rl_desc.proofs.FlawLemmas.{below_power}
use Rattle.rl_desc.proofs.flaw.fits.Goals as goal

pub returns-in-None : goal.returns-in-None
returns-in-None c = below_power c.args.value c.args.width (omega (arith, c.in-None.ensures)) (omega arith)
