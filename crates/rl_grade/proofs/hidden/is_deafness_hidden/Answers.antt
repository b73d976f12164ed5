use Rattle.std.proofs.Common.{◌≡◌, true, ap, sym, ◌∙◌, arith}
use Rattle.std.specs.List.{list_all}
use Rattle.std.proofs.lemmas.List.Folds.{list_all_at}
use Rattle.rl_model.specs.Fields.{field_of, no_field}
use Rattle.rl_grade.specs.Hidden.{is_deaf_hidden}
use Rattle.rl_grade.proofs.HiddenTests.{all_pass, next_holds}
use Rattle.rl_grade.proofs.hidden.is_deafness_hidden.Goals as goal

pub returns-then-not-is_deaf_field_hidden : goal.returns-then-not-is_deaf_field_hidden
returns-then-not-is_deaf_field_hidden c =
    let fields = c.args.chip.now.fields in
    let count = c.fields-field-end.ensures.count in
    sym (list_all_at (is_deaf_hidden c.ways_to-ways.result c.args.reg) fields c.loop-field.field no_field (omega (arith, count))
    (sym c.is_deaf_field_hidden.ensures ∙ c.if-not-is_deaf_field_hidden.true))
    ∙ ap (λ w. list_all (is_deaf_hidden w c.args.reg) fields) c.ways_to-ways.ensures

pub returns : goal.returns
returns c =
    let fields = c.args.chip.now.fields in
    let count = c.fields-field-end.ensures.count in
    sym (all_pass (is_deaf_hidden c.ways_to-ways.result c.args.reg) fields no_field (λ i low. c.loop-field.invariant i (omega (arith, low, count))))
    ∙ ap (λ w. list_all (is_deaf_hidden w c.args.reg) fields) c.ways_to-ways.ensures

pub loop-field-preserved : goal.loop-field-preserved
loop-field-preserved c =
    next_holds (λ j. is_deaf_hidden c.ways_to-ways.result c.args.reg (field_of c.args.chip.now j) ≡ true) c.loop-field.field c.loop-field.invariant
    (sym c.is_deaf_field_hidden.ensures ∙ c.if-not-is_deaf_field_hidden.false)
