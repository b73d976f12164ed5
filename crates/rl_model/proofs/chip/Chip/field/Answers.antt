use Rattle.std.proofs.Common.{length, Some, refl, sym, ap, ◌∙◌, subst}
use Rattle.std.proofs.lemmas.Option.{slice_get_read}
use Rattle.rl_model.specs.declared.rows.Field.{Field}
use Rattle.rl_model.specs.Rows.{FieldSeen, ChipData}
use Rattle.rl_model.specs.Chip.{IsSound, HasBits}
use Rattle.rl_model.proofs.ChipLaws.{field_has_bits}
use Rattle.rl_model.proofs.Reading.{read_at, sound_as}
use Rattle.rl_model.proofs.chip.Chip.field.Goals as goal

pub returns-clause-fits : goal.returns-clause-fits
returns-clause-fits c =
    let P : ChipData → Type 0 = IsSound in
    let chip = c.args.self.now in
    let sound = subst P c.self.view_is c.self.invariant.0 in
    let row = c.index-row.result.now in
    let at = slice_get_read chip.fields (length chip.fields) c.args.field row refl c.requires (rw (← c.self.view_is) c.index-row.ensures) in
    let has = field_has_bits chip sound c.args.field row at in
    let Q : Field → Type 0 = HasBits chip in
    subst Q (ap (λ (g : FieldSeen). g.shape) (sym c.row.view_is)) has

pub returns-clause-value : goal.returns-clause-value
returns-clause-value c =
    read_at (λ (f : FieldSeen). f.shape) c.args.self.now.fields c.args.field c.index-row.result.now c.requires (rw (← c.self.view_is) c.index-row.ensures)
    ∙ ap (λ (f : FieldSeen). Some f.shape) (sym c.row.view_is)

pub returns-clause-sound : goal.returns-clause-sound
returns-clause-sound c = sound_as _ _ c.self.view_is c.self.invariant.0
