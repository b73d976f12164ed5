use Rattle.std.proofs.Common.{sym, ◌∙◌, arith}
use Rattle.rl_mirror.proofs.FieldLemmas.{count_is}
use Rattle.rl_plan.proofs.Fields.{has_value_for, none_passes, one_more_fails, one_passes, valued_at}
use Rattle.rl_plan.proofs.register.has_value.Goals as goal

pub returns-then-is_some : goal.returns-then-is_some
returns-then-is_some c =
    let chip = c.args.chip.now in
    let here = valued_at chip c.args.reg c.loop-k.k c.args.kind c.first_field-first.ensures.sound c.requires.reg c.first_field-first.ensures.value
    c.field_count-k-end.ensures.value c.loop-k-test.true c.reset_of.ensures.value in
    one_passes (has_value_for c.args.kind) chip c.args.reg c.loop-k.k here.0 (sym here.1 ∙ sym c.is_some.ensures ∙ c.if-is_some.true)

pub loop-k-preserved : goal.loop-k-preserved
loop-k-preserved c =
    let chip = c.args.chip.now in
    let here = valued_at chip c.args.reg c.loop-k.k c.args.kind c.first_field-first.ensures.sound c.requires.reg c.first_field-first.ensures.value
    c.field_count-k-end.ensures.value c.loop-k-test.true c.reset_of.ensures.value in
    one_more_fails (has_value_for c.args.kind) chip c.args.reg c.loop-k.k here.0 c.loop-k.invariant (sym here.1 ∙ sym c.is_some.ensures ∙ c.if-is_some.false)

pub returns : goal.returns
returns c =
    let chip = c.args.chip.now in
    let many = count_is chip c.args.reg _ c.first_field-first.ensures.sound c.requires.reg c.field_count-k-end.ensures.value in
    none_passes (has_value_for c.args.kind) chip c.args.reg c.loop-k.k (omega (arith, many, c.loop-k-test.false)) c.loop-k.invariant
