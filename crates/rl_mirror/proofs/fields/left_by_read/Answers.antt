use Rattle.std.proofs.Common.{◌≡◌, arith}
use Rattle.std.specs.Prelude.{bit_and}
use Rattle.rl_model.specs.Fields.{fields_of, policy_at}
use Rattle.rl_mirror.specs.Prediction.{left_by_read}
use Rattle.rl_mirror.proofs.MaskedLemmas.{left_is, left_fits}
use Rattle.rl_mirror.proofs.fields.left_by_read.Goals as goal

pub returns : goal.returns
returns c =
    let chip = c.args.chip.now in
    let reg = c.args.reg in
    let fs = fields_of chip reg in
    let effects = c.effects-effects.ensures in
    let is : bit_and c.effects-effects.result.now.owned c.read-left.result.1 ≡ left_by_read fs c.args.bits =
    left_is fs c.effects-effects.result.now.owned c.args.bits c.read-left.result.1 (omega arith) effects.value.owned (c.read-left.ensures.bits (policy_at fs) effects.value) in
    record { value = is; fits = rw is (left_fits chip reg c.args.bits effects.sound c.requires) }
