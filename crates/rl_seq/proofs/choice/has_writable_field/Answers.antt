use Rattle.std.proofs.Common.{◌≡◌, ◌+◌, not, sym, ap, ◌∙◌, arith}
use Rattle.rl_model.specs.Fields.{field_of, first_of, count_of}
use Rattle.rl_seq.specs.Choice.{is_read_only}
use Rattle.rl_seq.proofs.Choosing.{mapped_or, any_found, any_more, writable_at}
use Rattle.rl_seq.proofs.choice.has_writable_field.Goals as goal

pub returns-then-not-is_read_only : goal.returns-then-not-is_read_only
returns-then-not-is_read_only c =
    let chip = c.args.chip.now in
    let turned = writable_at chip c.args.reg c.loop-k.k c.field.ensures.sound (omega (arith, c.requires)) c.first_field-first.ensures.value
    c.field_count-k-end.ensures.value (omega arith) c.field.ensures.value c.is_read_only.ensures in
    let many : count_of chip c.args.reg ≡ c.field_count-k-end.result = mapped_or
    (λ r. r.count) _ 0 c.field_count-k-end.result c.field_count-k-end.ensures.value in
    sym (any_found (λ k. not (is_read_only (field_of chip (first_of chip c.args.reg + k)).shape.policy))
    (count_of chip c.args.reg) c.loop-k.k (omega (arith, many)) (sym turned ∙ ap not c.if-not-is_read_only.true))

pub loop-k-preserved : goal.loop-k-preserved
loop-k-preserved c =
    let chip = c.args.chip.now in
    let turned = writable_at chip c.args.reg c.loop-k.k c.field.ensures.sound (omega (arith, c.requires)) c.first_field-first.ensures.value
    c.field_count-k-end.ensures.value (omega arith) c.field.ensures.value c.is_read_only.ensures in
    any_more (λ k. not (is_read_only (field_of chip (first_of chip c.args.reg + k)).shape.policy)) c.loop-k.k c.loop-k.invariant
    (sym turned ∙ ap not c.if-not-is_read_only.false)
