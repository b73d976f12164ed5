use Rattle.std.proofs.Common.{◌≡◌, Bool, List, ap, ◌∙◌, arith}
use Rattle.rl_model.specs.Fields.{fields_of}
use Rattle.rl_mirror.specs.Mirror.{MirrorData, marks_in}
use Rattle.rl_mirror.specs.Prediction.{written}
use Rattle.rl_mirror.proofs.MaskedLemmas.{written_is, written_fits}
use Rattle.rl_mirror.proofs.mirror.Mirror.written.Goals as goal

pub returns-clause-value : goal.returns-clause-value
returns-clause-value c =
    let chip = c.args.chip.now in
    let reg = c.args.reg in
    let fs = fields_of chip reg in
    let same : c.deref.result.now ≡ c.args.self.now.spent = c.deref.ensures.value ∙ ap (λ (m : MirrorData). m.spent) c.self.view_is in
    written_is fs c.effects.result.now.owned c.args.bits c.args.word c.written_over-written.result (marks_in chip c.deref.result.now reg) (omega arith) c.effects.ensures.value.owned
    c.written_over-written.ensures
    ∙ ap (λ (spent : List Bool). written fs (marks_in chip spent reg) c.args.bits c.args.word) same

pub returns-clause-fits : goal.returns-clause-fits
returns-clause-fits c =
    rw (returns-clause-value c) (written_fits c.args.chip.now c.args.reg c.args.bits c.args.word (marks_in c.args.chip.now c.args.self.now.spent c.args.reg) c.effects.ensures.sound c.requires.reg)
