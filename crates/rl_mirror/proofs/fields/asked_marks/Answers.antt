use Rattle.rl_model.specs.Fields.{fields_of}
use Rattle.rl_mirror.specs.Mirror.{marked_bits}
use Rattle.rl_mirror.proofs.MaskedLemmas.{unasked}
use Rattle.rl_mirror.proofs.fields.asked_marks.Goals as goal

pub returns-then-effects-places-eq0 : goal.returns-then-effects-places-eq0
returns-then-effects-places-eq0 c bits word =
    unasked (fields_of c.args.chip.now c.args.reg) c.effects.result.now.spending c.args.places bits (marked_bits c.args.chip.now c.args.spent.now c.args.reg) word
    c.effects.ensures.value.spending c.if-effects-places-eq0.true
