use Rattle.std.proofs.Common.{◌≡◌, ℕ, ap, ◌∙◌, arith, refl, sym, subst}
use Rattle.std.specs.Prelude.{slice_set, slice_index}
use Rattle.std.proofs.lemmas.List.{get_or_read, length-set}
use Rattle.rl_policy.specs.Bits.{bit, put_bit}
use Rattle.rl_policy.proofs.BitLemmas.{bit-from_bits}
use Rattle.rl_bus.specs.declared.table.FieldRow.{FieldRow}
use Rattle.rl_bus.specs.Setup.{held, field_of, no_field}
use Rattle.rl_bus.specs.State.{State, hw_set}
use Rattle.rl_bench.specs.Shape.{RegOf, IsShapeOf}
use Rattle.rl_bench.specs.Board.{state_of, IsFieldIn}
use Rattle.rl_bench.specs.Tables.{setup_held}
use Rattle.rl_bench.proofs.CellLemmas.{shape_at, fit_with}
use Rattle.rl_bench.proofs.DepositLemmas.{part_bit}
use Rattle.rl_bench.proofs.HeldLemmas.{held_same}
use Rattle.rl_bench.proofs.backdoor.set_field.Goals as goal

abbrev set_in : State → ℕ → FieldRow → State
set_in s value f = record s { bits = slice_set s.bits f.reg (held s.setup f.reg (put_bit f.lsb f.width (bit value) (bit (slice_index s.bits f.reg)))) }

pub returns-clause-state : goal.returns-clause-state
unfolding hw_set
returns-clause-state c beats items =
    let t = setup_held c.args.board.now.tables in
    let old = c.args.cells.now in
    let f = c.index-row.result.now in
    let s : State = state_of t old beats items in
    let row : f ≡ field_of t c.args.field = get_or_read t.fields c.args.field f c.requires.field c.index-row.ensures no_field in
    let seated : IsFieldIn t f = subst (IsFieldIn t) (sym c.index-row.ensures) (c.args.board.now.sound.fields c.args.field f c.requires.field) in
    let at : RegOf = record { setup = t; reg = f.reg } in
    let e : IsShapeOf at c.index-2.result.now = shape_at t c.args.board.now.shapes.items f.reg c.index-2.result.now c.args.board.now.shaped seated.reg c.index-2.ensures in
    let x : c.index.result.now ≡ slice_index old.bits.items f.reg = get_or_read old.bits.items f.reg _ (omega (arith, seated.reg, c.requires.fit.bits)) c.index.ensures 0 in
    ap (λ v. record s { bits = slice_set old.bits.items f.reg v })
    (c.hold.ensures at e ∙ held_same t f.reg _ _ (λ b k.
    ap (λ n. bit n b) c.put-deposited.ensures ∙ bit-from_bits 64 _ b k
    ∙ part_bit f.lsb f.width c.args.value c.mask.result (bit c.index.result.now) b c.mask.ensures
    ∙ ap (λ n. put_bit f.lsb f.width (bit c.args.value) (bit n) b) x))
    ∙ ap (set_in s c.args.value) row

pub returns-clause-fit : goal.returns-clause-fit
returns-clause-fit c =
    let old = c.args.cells.now in
    fit_with _ old _ c.requires.fit (length-set old.bits.items c.index-row.result.now.reg _) refl refl
