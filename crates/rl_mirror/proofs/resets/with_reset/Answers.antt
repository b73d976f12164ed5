use Rattle.std.proofs.Common.{◌≡◌, Some, None, sym, ap, ◌∙◌, arith}
use Rattle.rl_model.specs.declared.rows.Field.{Field}
use Rattle.rl_model.specs.Rows.{FieldSeen}
use Rattle.rl_model.specs.Chip.{value_for}
use Rattle.rl_model.specs.Fields.{field_of, fields_of, field_in}
use Rattle.rl_mirror.proofs.FieldLemmas.{field_in-fields_of}
use Rattle.rl_mirror.proofs.ResetLemmas.{reset_answer, reset_there, reset_fits, put_is_reset, none_is_reset}
use Rattle.rl_mirror.proofs.resets.with_reset.Goals as goal

pub put-requires-clause-v_fits : goal.put-requires-clause-v_fits
put-requires-clause-v_fits c =
    let chip = c.args.chip.now in
    let n = c.field_number.result in
    let is : field_in (fields_of chip c.args.reg) c.args.k ≡ field_of chip n =
    field_in-fields_of chip c.args.reg c.args.k c.in-Some.ensures.sound c.requires.reg c.requires.field ∙ ap (field_of chip) (sym c.field_number.ensures.number) in
    let found : value_for c.args.kind (field_of chip n).resets ≡ Some c.in-Some.value = sym (reset_answer chip n c.args.kind (Some c.in-Some.value) c.field_number.ensures.within
    c.in-Some.ensures.value) in
    let width : c.field_at-field.result.width ≡ (field_of chip n).shape.width = ap (λ (f : Field). f.width) c.field_at-field.ensures.field ∙ ap (λ (f : FieldSeen). f.shape.width) is in
    rw width (reset_fits chip n c.args.kind c.in-Some.value c.in-Some.ensures.sound c.field_number.ensures.within found)

pub returns-in-Some : goal.returns-in-Some
returns-in-Some c =
    put_is_reset (field_in (fields_of c.args.chip.now c.args.reg) c.args.k) c.args.kind c.in-Some.value c.args.word c.put.result c.field_at-field.result.lsb c.field_at-field.result.width
    (reset_there c.args.chip.now c.args.reg c.args.k c.field_number.result c.args.kind (Some c.in-Some.value) c.in-Some.ensures.sound c.requires.reg c.requires.field c.field_number.ensures.number
    c.field_number.ensures.within c.in-Some.ensures.value)
    (ap (λ (f : Field). f.lsb) c.field_at-field.ensures.field) (ap (λ (f : Field). f.width) c.field_at-field.ensures.field) c.put.ensures

pub returns-in-None : goal.returns-in-None
returns-in-None c =
    none_is_reset (field_in (fields_of c.args.chip.now c.args.reg) c.args.k) c.args.kind c.args.word
    (reset_there c.args.chip.now c.args.reg c.args.k c.field_number.result c.args.kind None c.in-None.ensures.sound c.requires.reg c.requires.field c.field_number.ensures.number
    c.field_number.ensures.within c.in-None.ensures.value) (omega arith)
