use Rattle.std.proofs.Common.{◌++◌, ◌∷◌, [], map, ap, ◌∙◌, arith}
use Rattle.std.proofs.lemmas.List.{take_all}
use Rattle.rl_map.specs.Tables.{field_row}
use Rattle.rl_bench.proofs.RowLemmas.{fields_more, shape_row}
use Rattle.rl_bench.proofs.rows.field_rows.Goals as goal

pub loop-number-preserved : goal.loop-number-preserved
loop-number-preserved c =
    c.in_ok-push.ensures.items
    ∙ ap (λ rows. rows ++ shape_row c.field-field.result ∷ []) c.loop-number.invariant
    ∙ fields_more c.args.chip.now.fields c.loop-number.number c.field-field.result c.field-field.ensures.value

pub returns : goal.returns
returns c =
    c.loop-number.invariant
    ∙ ap (map field_row) (take_all c.loop-number.number c.args.chip.now.fields (omega (arith, c.loop-number-test.false, c.fields-number-end.ensures.count)))
