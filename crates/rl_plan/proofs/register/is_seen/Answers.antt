use Rattle.std.proofs.Common.{sym, ◌∙◌, arith}
use Rattle.rl_mirror.proofs.FieldLemmas.{count_is}
use Rattle.rl_plan.proofs.Fields.{compared_at, is_compared_field, none_passes, one_more_fails, one_passes}
use Rattle.rl_plan.proofs.register.is_seen.Goals as goal

pub returns-then-is_compared : goal.returns-then-is_compared
returns-then-is_compared c =
    let chip = c.args.chip.now in
    let here = compared_at chip c.args.reg c.loop-k.k c.first_field-first.ensures.sound c.requires c.first_field-first.ensures.value
    c.field_count-k-end.ensures.value c.loop-k-test.true c.field.ensures.value c.is_compared.ensures in
    one_passes is_compared_field chip c.args.reg c.loop-k.k here.0 (sym here.1 ∙ c.if-is_compared.true)

pub loop-k-preserved : goal.loop-k-preserved
loop-k-preserved c =
    let chip = c.args.chip.now in
    let here = compared_at chip c.args.reg c.loop-k.k c.first_field-first.ensures.sound c.requires c.first_field-first.ensures.value
    c.field_count-k-end.ensures.value c.loop-k-test.true c.field.ensures.value c.is_compared.ensures in
    one_more_fails is_compared_field chip c.args.reg c.loop-k.k here.0 c.loop-k.invariant (sym here.1 ∙ c.if-is_compared.false)

pub returns : goal.returns
returns c =
    let chip = c.args.chip.now in
    let many = count_is chip c.args.reg _ c.first_field-first.ensures.sound c.requires c.field_count-k-end.ensures.value in
    none_passes is_compared_field chip c.args.reg c.loop-k.k (omega (arith, many, c.loop-k-test.false)) c.loop-k.invariant
