use Rattle.std.proofs.Common.{◌≡◌, arith}
use Rattle.std.specs.Prelude.{bit_and}
use Rattle.rl_model.specs.Fields.{fields_of}
use Rattle.rl_mirror.specs.Prediction.{shown}
use Rattle.rl_mirror.proofs.MaskedLemmas.{shown_is, shown_fits}
use Rattle.rl_mirror.proofs.fields.shown.Goals as goal

pub returns : goal.returns
returns c =
    let chip = c.args.chip.now in
    let reg = c.args.reg in
    let fs = fields_of chip reg in
    let effects = c.effects.ensures in
    let is : bit_and c.effects.result.now.shown c.args.bits ≡ shown fs c.args.bits = shown_is fs c.effects.result.now.shown c.args.bits (omega arith) effects.value.shown in
    record { value = is; fits = rw is (shown_fits chip reg c.args.bits effects.sound c.requires) }
