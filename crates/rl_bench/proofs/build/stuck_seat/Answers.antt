use Rattle.std.proofs.Common.{◌≡◌, ◌+◌, ap, ◌∙◌, get_or, eqb, ◌&&◌, sym, subst}
use Rattle.std.proofs.lemmas.List.{get_or_read}
use Rattle.rl_policy.proofs.BitLemmas.{bit-zero}
use Rattle.rl_bus.specs.Setup.{names_bit, no_stuck, no_field, field_of}
use Rattle.rl_bench.specs.Board.{IsStuckIn}
use Rattle.rl_bench.specs.Tables.{setup_held}
use Rattle.rl_bench.proofs.BuildLemmas.{own_bit, other_bit}
use Rattle.rl_bench.proofs.build.stuck_seat.Goals as goal

pub returns-else-field-reg : goal.returns-else-field-reg
returns-else-field-reg c b k =
    let t = setup_held c.args.tables.now in
    let row = c.index-row.result.now in
    let field = c.index-field.result.now in
    let e : row ≡ get_or t.flaws.stuck c.args.k no_stuck = get_or_read t.flaws.stuck c.args.k row c.requires.k c.index-row.ensures no_stuck in
    let good : IsStuckIn t row = subst (IsStuckIn t) (sym c.index-row.ensures) (c.requires.setup.stuck c.args.k row c.requires.k) in
    let f : field ≡ field_of t row.field = get_or_read t.fields row.field field good.field c.index-field.ensures no_field in
    bit-zero b ∙ other_bit field.reg c.args.reg (field.lsb + row.bit) b c.if-field-reg.false
    ∙ ap (λ x. eqb x.reg c.args.reg && eqb (x.lsb + row.bit) b) f
    ∙ ap (λ s. names_bit t s c.args.reg b) e

pub returns-then-field-reg : goal.returns-then-field-reg
returns-then-field-reg c b k =
    let t = setup_held c.args.tables.now in
    let row = c.index-row.result.now in
    let field = c.index-field.result.now in
    let e : row ≡ get_or t.flaws.stuck c.args.k no_stuck = get_or_read t.flaws.stuck c.args.k row c.requires.k c.index-row.ensures no_stuck in
    let good : IsStuckIn t row = subst (IsStuckIn t) (sym c.index-row.ensures) (c.requires.setup.stuck c.args.k row c.requires.k) in
    let f : field ≡ field_of t row.field = get_or_read t.fields row.field field good.field c.index-field.ensures no_field in
    c.window.ensures b k ∙ own_bit field.reg c.args.reg (field.lsb + row.bit) b c.if-field-reg.true
    ∙ ap (λ x. eqb x.reg c.args.reg && eqb (x.lsb + row.bit) b) f
    ∙ ap (λ s. names_bit t s c.args.reg b) e
