use Rattle.std.proofs.Common.{length, refl, sym, ap, ◌∙◌}
use Rattle.std.specs.Prelude.{option_and_then}
use Rattle.std.proofs.lemmas.Option.{slice_get_read}
use Rattle.rl_model.specs.Rows.{FieldSeen}
use Rattle.rl_model.specs.Chip.{value_for}
use Rattle.rl_model.proofs.Reading.{sound_as}
use Rattle.rl_model.proofs.chip.Chip.reset_of.Goals as goal

pub returns-clause-value : goal.returns-clause-value
returns-clause-value c =
    let fields = c.args.self.now.fields in
    let at = slice_get_read fields (length fields) c.args.field c.index-row.result.now refl c.requires.field (rw (← c.self.view_is) c.index-row.ensures) in
    c.value_for.ensures ∙ ap (value_for c.args.kind) c.deref.ensures.value
    ∙ ap (λ (f : FieldSeen). value_for c.args.kind f.resets) c.row.view_is ∙ sym (ap (option_and_then (λ (f : FieldSeen). value_for c.args.kind f.resets)) at)

pub returns-clause-sound : goal.returns-clause-sound
returns-clause-sound c = sound_as _ _ c.self.view_is c.self.invariant.0
