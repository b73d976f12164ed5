use Rattle.std.proofs.Common.{◌≡◌, true, ap, sym, ◌∙◌, arith}
use Rattle.rl_model.specs.declared.rows.Field.{Field}
use Rattle.rl_model.specs.Fields.{field_of}
use Rattle.rl_mirror.proofs.FieldLemmas.{field_answer}
use Rattle.rl_grade.specs.Hidden.{is_bit_hidden}
use Rattle.rl_grade.proofs.HiddenTests.{each_passes, next_holds, one_fails}
use Rattle.rl_grade.proofs.hidden.is_field_hidden.Goals as goal

pub returns-then-not-is_bit_hidden : goal.returns-then-not-is_bit_hidden
returns-then-not-is_bit_hidden c =
    let f = field_of c.args.chip.now c.args.field in
    let width : c.field-width.result.width ≡ f.shape.width =
    ap (λ (x : Field). x.width) (field_answer c.args.chip.now c.args.field c.field-width.result c.requires c.field-width.ensures.value) in
    sym (one_fails (is_bit_hidden c.args.ways c.args.bit f) f.shape.width c.loop-i.i (omega (arith, width))
    (sym c.is_bit_hidden.ensures ∙ c.if-not-is_bit_hidden.true))

pub returns : goal.returns
returns c =
    let f = field_of c.args.chip.now c.args.field in
    let width : c.field-width.result.width ≡ f.shape.width =
    ap (λ (x : Field). x.width) (field_answer c.args.chip.now c.args.field c.field-width.result c.requires c.field-width.ensures.value) in
    sym (each_passes (is_bit_hidden c.args.ways c.args.bit f) f.shape.width (λ i low. c.loop-i.invariant i (omega (arith, low, width))))

pub loop-i-preserved : goal.loop-i-preserved
loop-i-preserved c =
    let f = field_of c.args.chip.now c.args.field in
    next_holds (λ j. is_bit_hidden c.args.ways c.args.bit f j ≡ true) c.loop-i.i c.loop-i.invariant
    (sym c.is_bit_hidden.ensures ∙ c.if-not-is_bit_hidden.false)
