use Rattle.std.proofs.Common.{ap, sym, ◌∙◌, arith}
use Rattle.rl_model.specs.Fields.{fields_of}
use Rattle.rl_mirror.specs.Fields.{chosen_bits}
use Rattle.rl_mirror.proofs.FieldLemmas.{field_list}
use Rattle.rl_mirror.proofs.MaskedLemmas.{all_chosen}
use Rattle.rl_mirror.proofs.fields.chosen.Goals as goal

pub returns-then-fields-eq18446744073709551615-clause-bits : goal.returns-then-fields-eq18446744073709551615-clause-bits
returns-then-fields-eq18446744073709551615-clause-bits c =
    let chip = c.args.chip.now in
    let fs = fields_of chip c.args.reg in
    let effects = c.effects in
    all_chosen fs effects.result.now.owned (field_list chip c.args.reg effects.ensures.sound c.requires).few (omega arith) effects.ensures.value.owned
    ∙ ap (chosen_bits fs) (sym c.if-fields-eq18446744073709551615.true)
