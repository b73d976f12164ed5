use Rattle.rl_model.specs.Fields.{size_of}
use Rattle.rl_model.specs.Rows.{ChipData}
use Rattle.std.proofs.Common.{◌<◌, ◌^◌, subst}
use Rattle.rl_access.proofs.Bytes.{below_digits}
use Rattle.rl_access.proofs.backdoor.value_shown.Goals as goal

pub returns-clause-digits : goal.returns-clause-digits
returns-clause-digits c = below_digits (size_of c.args.model.now.chip c.args.reg) c.shown.result (subst (λ (h : ChipData). c.shown.result < 256 ^ size_of h c.args.reg) c.chip.ensures.chip
    c.shown.ensures.fits)
