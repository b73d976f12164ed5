use Rattle.rl_model.proofs.Checks.{width_fits}
use Rattle.rl_model.proofs.build.check_mem.Goals as goal

pub returns-clause-bytes : goal.returns-clause-bytes
returns-clause-bytes c = width_fits c.args.part.now.bytes c.in_ok-check_width.ensures.fits
