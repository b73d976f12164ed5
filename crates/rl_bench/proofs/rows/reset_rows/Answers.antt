use Rattle.std.proofs.Common.{◌++◌, ap, ◌∙◌, map, arith}
use Rattle.std.proofs.lemmas.List.{take_all}
use Rattle.rl_map.specs.Tables.{reset_rows}
use Rattle.rl_bench.specs.Rows.{reset_of}
use Rattle.rl_bench.proofs.RowLemmas.{resets_more, few_kinds}
use Rattle.rl_bench.proofs.rows.reset_rows.Goals as goal

pub loop-field-preserved : goal.loop-field-preserved
loop-field-preserved c =
    c.in_ok-push_resets.ensures
    ∙ ap (λ rows. rows ++ map (reset_of c.loop-field.field) c.resets.result.now) c.loop-field.invariant
    ∙ resets_more c.args.chip.now.fields c.loop-field.field c.resets.result.now c.resets.ensures

pub push_resets-requires : goal.push_resets-requires
push_resets-requires c = few_kinds c.args.chip.now c.loop-field.field c.resets.result.now c.fields-field-end.ensures.sound c.resets.ensures

pub returns : goal.returns
returns c =
    c.loop-field.invariant
    ∙ ap (reset_rows 0) (take_all c.loop-field.field c.args.chip.now.fields (omega (arith, c.loop-field-test.false, c.fields-field-end.ensures.count)))
