use Rattle.std.proofs.Common.{◌≡◌, ◌*◌, ◌^◌, nat_lt, Some, sym, ap, subst, ◌∙◌}
use Rattle.rl_model.specs.Rows.{ChipData}
use Rattle.rl_model.specs.Chip.{bytes_of}
use Rattle.rl_model.specs.declared.rows.Item.TheVariants as item
use Rattle.rl_access.proofs.Bytes.{bytes_bits}
use Rattle.rl_access.proofs.Places.{size_is}
use Rattle.rl_access.proofs.Rights.{most_below}
use Rattle.rl_weave.specs.Weave.{value_fits}
use Rattle.rl_weave.proofs.granting.is_fitting.Goals as goal

pub returns-in-Some : goal.returns-in-Some
returns-in-Some c =
    let reg = item.Reg c.args.access.now.reg in
    let bytes = subst (λ (h : ChipData). bytes_of h reg ≡ Some c.bytes.result) c.chip.ensures.chip c.bytes.ensures.value in
    let size = size_is c.args.model.now.chip reg c.bytes.result bytes in
    most_below c.in-Some.value (8 * c.bytes.result) c.mask.result c.mask.ensures
    ∙ ap (λ limit. nat_lt c.in-Some.value limit) (bytes_bits c.bytes.result ∙ sym (ap (λ n. 256 ^ n) size))
    ∙ sym (ap (value_fits c.args.model.now c.args.access.now.reg) c.in-Some.is)
