use Rattle.rl_model.specs.Fields.{size_of, fields_of}
use Rattle.rl_mirror.specs.Fields.{owned}
use Rattle.rl_model.specs.Rows.{ChipData}
use Rattle.std.proofs.Common.{◌≡◌, ◌<◌, ◌^◌, subst}
use Rattle.rl_access.proofs.Bytes.{below_digits}
use Rattle.rl_access.proofs.Tables.{reg_there}
use Rattle.rl_access.proofs.backdoor.sampled.Goals as goal

pub peek-bits-requires : goal.peek-bits-requires
peek-bits-requires g c = record { cell = reg_there c.args.model.now _ c.args.reg c.requires.device c.requires.reg }

pub returns-clause-found : goal.returns-clause-found
returns-clause-found g c = record {
  sampled = c.peek-bits.result;
  found = c.peek-bits.ensures.step;
  value_is = subst (λ (h : ChipData). c.owned.result ≡ owned (fields_of h c.args.reg) c.peek-bits.result) c.chip.ensures.chip c.owned.ensures.value;
}

pub returns-clause-digits : goal.returns-clause-digits
returns-clause-digits g c = below_digits (size_of c.args.model.now.chip c.args.reg) c.owned.result (subst (λ (h : ChipData). c.owned.result < 256 ^ size_of h c.args.reg) c.chip.ensures.chip
    c.owned.ensures.fits)
