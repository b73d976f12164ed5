use Rattle.std.proofs.Common.{◌≡◌, ◌+◌, ◌==◌, true, Some, sym, ap, ◌∙◌, arith, eq-eqb}
use Rattle.std.proofs.lemmas.Bool.{eqb-true, false_from_ne_true}
use Rattle.rl_model.specs.declared.rows.Item.TheVariants.{Mem}
use Rattle.rl_access.specs.declared.event.Op.{Op}
use Rattle.rl_access.specs.declared.event.Op.TheVariants as op
use Rattle.rl_access.specs.Rules.{memory_size}
use Rattle.rl_seq.specs.Choice.{turned_round}
use Rattle.rl_seq.specs.Visits.{some_if}
use Rattle.rl_seq.proofs.Choosing.{mapped_or}
use Rattle.rl_seq.proofs.visit.check_last.Goals as goal

pub returns-then-number-size : goal.returns-then-number-size
returns-then-number-size c =
    let many : memory_size c.args.chip.now c.args.mem ≡ c.size.result = mapped_or (λ m. m.size) _ 0 c.size.result c.size.ensures.value in
    let check : Op = op.MemCheck c.args.mem (Some c.args.map) c.args.number (turned_round c.args.chip.now (Mem c.args.mem) c.args.number) in
    ap (some_if true) c.check_filled.ensures
    ∙ sym (ap (λ b. some_if b check) (eq-eqb (c.args.number + 1) (memory_size c.args.chip.now c.args.mem) (omega arith)))

pub returns-else-number-size : goal.returns-else-number-size
returns-else-number-size c =
    let many : memory_size c.args.chip.now c.args.mem ≡ c.size.result = mapped_or (λ m. m.size) _ 0 c.size.result c.size.ensures.value in
    let check : Op = op.MemCheck c.args.mem (Some c.args.map) c.args.number (turned_round c.args.chip.now (Mem c.args.mem) c.args.number) in
    let other = false_from_ne_true (c.args.number + 1 == memory_size c.args.chip.now c.args.mem)
    (λ same. c.if-number-size.false (let is = eqb-true (c.args.number + 1) (memory_size c.args.chip.now c.args.mem) same in omega arith)) in
    sym (ap (λ b. some_if b check) other)
