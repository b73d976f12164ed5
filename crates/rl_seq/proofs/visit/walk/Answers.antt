use Rattle.std.proofs.Common.{Some, ap, ◌∙◌}
use Rattle.rl_access.specs.declared.event.Op.TheVariants as op
use Rattle.rl_model.specs.declared.rows.Item.TheVariants.{Mem}
use Rattle.rl_seq.specs.Choice.{low_bits, turned_round}
use Rattle.rl_seq.specs.Visits.{check_filled_op}
use Rattle.rl_seq.proofs.Turning.{mem_in}
use Rattle.rl_seq.proofs.Walking.{checks_none, walk_checks, walk_fills, walk_writes, writes_none}
use Rattle.rl_seq.proofs.visit.walk.Goals as goal

pub turned_round-value-requires : goal.turned_round-value-requires
turned_round-value-requires c = mem_in c.args.mem c.requires.mem c.chip.ensures.chip

pub check_filled-requires : goal.check_filled-requires
check_filled-requires c = mem_in c.args.mem c.requires.mem c.chip-in-1.ensures.chip

pub low_bits-value-requires : goal.low_bits-value-requires
low_bits-value-requires c = mem_in c.args.mem c.requires.mem c.chip-in-2.ensures.chip

pub check_last-requires : goal.check_last-requires
check_last-requires c = mem_in c.args.mem c.requires.mem c.chip-in_default.ensures.chip

pub returns-in-0-clause-part : goal.returns-in-0-clause-part
returns-in-0-clause-part c =
    let a = c.args in
    let value = c.turned_round-value.ensures ∙ ap (λ chip. turned_round chip (Mem a.mem) c.from.result) c.chip.ensures.chip
    ∙ ap (turned_round a.model.now.chip (Mem a.mem)) c.from.ensures in
    ap Some (c.write_at.ensures ∙ ap (op.MemWrite a.mem (Some a.map) a.turn) value) ∙ walk_fills a.model.now.chip a.mem a.map a.turn a.part c.in-0.is

pub returns-in_ok-checked_sub-in-1-clause-part : goal.returns-in_ok-checked_sub-in-1-clause-part
returns-in_ok-checked_sub-in-1-clause-part c =
    let a = c.args in
    let before = c.in_ok-checked_sub-in-1.field-0 in
    let is = c.check_filled.ensures ∙ ap (λ chip. check_filled_op chip a.mem a.map before) c.chip-in-1.ensures.chip in
    ap Some is ∙ walk_checks a.model.now.chip a.mem a.map before a.turn a.part c.in-1.is c.in_ok-checked_sub-in-1.ensures

pub returns-in_err-checked_sub-in-1-clause-part : goal.returns-in_err-checked_sub-in-1-clause-part
returns-in_err-checked_sub-in-1-clause-part c =
    let a = c.args in
    c.from_residual.ensures ∙ checks_none a.model.now.chip a.mem a.map a.turn a.part c.in-1.is c.in_err-checked_sub-in-1.ensures

pub returns-in_ok-before-in-2-clause-part : goal.returns-in_ok-before-in-2-clause-part
returns-in_ok-before-in-2-clause-part c =
    let a = c.args in
    let before = c.in_ok-before-in-2.before in
    let value = c.low_bits-value.ensures ∙ ap (λ chip. low_bits chip (Mem a.mem) c.from-in-2.result) c.chip-in-2.ensures.chip
    ∙ ap (low_bits a.model.now.chip (Mem a.mem)) c.from-in-2.ensures in
    ap Some (c.write_at-in-2.ensures ∙ ap (op.MemWrite a.mem (Some a.map) before) value)
    ∙ walk_writes a.model.now.chip a.mem a.map before a.turn a.part c.in-2.is c.in_ok-before-in-2.ensures

pub returns-in_err-before-in-2-clause-part : goal.returns-in_err-before-in-2-clause-part
returns-in_err-before-in-2-clause-part c =
    let a = c.args in
    c.from_residual-in_err-before-in-2.ensures ∙ writes_none a.model.now.chip a.mem a.map a.turn a.part c.in-2.is c.in_err-before-in-2.ensures
