use Rattle.std.proofs.Common.{◌∙◌}
use Rattle.rl_model.specs.Fields.{fields_of, policy_at}
use Rattle.rl_mirror.proofs.fields.written_over.Goals as goal

pub returns : goal.returns
returns c =
    c.write-written.ensures.bits (policy_at (fields_of c.args.chip.now c.args.reg)) c.effects.ensures.value ∙ c.asked_marks-marks.ensures c.args.bits c.args.word
