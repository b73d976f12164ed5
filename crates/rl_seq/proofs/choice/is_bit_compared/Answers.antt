use Rattle.std.proofs.Common.{◌≡◌, sym, ◌∙◌, arith}
use Rattle.rl_model.specs.Fields.{count_of}
use Rattle.rl_seq.proofs.Choosing.{mapped_or, is_compared_at, any_more, any_found, compared_at}
use Rattle.rl_seq.proofs.choice.is_bit_compared.Goals as goal

pub returns-then-is_compared_in : goal.returns-then-is_compared_in
returns-then-is_compared_in c =
    let chip = c.args.chip.now in
    let here = compared_at chip c.args.reg c.args.bit c.loop-k.k c.first_field-first.ensures.sound c.requires c.first_field-first.ensures.value
    c.field_count-k-end.ensures.value c.loop-k-test.true c.field.ensures.value c.is_compared_in.ensures in
    let many : count_of chip c.args.reg ≡ c.field_count-k-end.result = mapped_or
    (λ r. r.count) _ 0 c.field_count-k-end.result c.field_count-k-end.ensures.value in
    sym (any_found (is_compared_at chip c.args.reg c.args.bit) (count_of chip c.args.reg) c.loop-k.k
    (omega (arith, many, c.loop-k-test.true)) (sym here ∙ c.if-is_compared_in.true))

pub loop-k-preserved : goal.loop-k-preserved
loop-k-preserved c =
    let chip = c.args.chip.now in
    let here = compared_at chip c.args.reg c.args.bit c.loop-k.k c.first_field-first.ensures.sound c.requires c.first_field-first.ensures.value
    c.field_count-k-end.ensures.value c.loop-k-test.true c.field.ensures.value c.is_compared_in.ensures in
    any_more (is_compared_at chip c.args.reg c.args.bit) c.loop-k.k c.loop-k.invariant (sym here ∙ c.if-is_compared_in.false)
