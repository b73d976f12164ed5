use Rattle.std.proofs.Common.{◌≡◌, ◌^◌, nat_lt, Some, sym, ap, subst, ◌∙◌}
use Rattle.rl_model.specs.Rows.{ChipData}
use Rattle.rl_model.specs.Chip.{bytes_of}
use Rattle.rl_access.proofs.Bytes.{bytes_bits}
use Rattle.rl_access.proofs.Places.{size_is}
use Rattle.rl_access.proofs.model.Model.is_fitting.Goals as goal

pub returns : goal.returns
returns c =
    let bytes = subst (λ (h : ChipData). bytes_of h c.args.item ≡ Some c.bytes.result) c.chip.ensures.chip c.bytes.ensures.value in
    let size = size_is c.args.self.now.chip c.args.item c.bytes.result bytes in
    c.fits_bits.ensures ∙ ap (λ limit. nat_lt c.args.value limit) (bytes_bits c.bytes.result ∙ sym (ap (λ n. 256 ^ n) size))
