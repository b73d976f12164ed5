use Rattle.std.proofs.Common.{◌≡◌, ◌+◌, true, sym, ◌∙◌, arith}
use Rattle.rl_model.specs.declared.rows.RegRow.{RegRow}
use Rattle.rl_mirror.proofs.FieldLemmas.{row_answer}
use Rattle.rl_grade.specs.Unchecked.{is_passed}
use Rattle.rl_grade.proofs.HiddenTests.{next_holds}
use Rattle.rl_grade.proofs.UncheckedTests.{all_from, one_from, same_range}
use Rattle.rl_grade.proofs.unchecked.are_passed.Goals as goal

pub returns-then-not-is_passed : goal.returns-then-not-is_passed
returns-then-not-is_passed c =
    let chip = c.args.chip.now in
    let first = row_answer chip c.args.reg c.first_field-first.result (λ (r : RegRow). r.first) c.first_field-first.ensures.value in
    let count = row_answer chip c.args.reg c.field_count-k-end.result (λ (r : RegRow). r.count) c.field_count-k-end.ensures.value in
    sym (same_range (is_passed chip c.args.flaw) _ _ _ _ first count
    ∙ one_from (is_passed chip c.args.flaw) c.first_field-first.result c.field_count-k-end.result c.loop-k.k c.loop-k-test.true
    (sym c.is_passed.ensures ∙ c.if-not-is_passed.true))

pub loop-k-preserved : goal.loop-k-preserved
loop-k-preserved c =
    next_holds (λ j. is_passed c.args.chip.now c.args.flaw (c.first_field-first.result + j) ≡ true) c.loop-k.k c.loop-k.invariant
    (sym c.is_passed.ensures ∙ c.if-not-is_passed.false)

pub returns : goal.returns
returns c =
    let chip = c.args.chip.now in
    let first = row_answer chip c.args.reg c.first_field-first.result (λ (r : RegRow). r.first) c.first_field-first.ensures.value in
    let count = row_answer chip c.args.reg c.field_count-k-end.result (λ (r : RegRow). r.count) c.field_count-k-end.ensures.value in
    sym (same_range (is_passed chip c.args.flaw) _ _ _ _ first count
    ∙ all_from (is_passed chip c.args.flaw) c.first_field-first.result c.field_count-k-end.result
    (λ i low. c.loop-k.invariant i (omega (arith, low, c.loop-k-test.false))))
