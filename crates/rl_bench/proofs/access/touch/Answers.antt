use Rattle.std.proofs.Common.{◌≡◌, true, false, refl, sym, ◌∙◌}
use Rattle.rl_bus.specs.Setup.{is_deaf}
use Rattle.rl_bench.specs.Tables.{setup_held}
use Rattle.rl_bench.proofs.access.touch.Goals as goal

pub returns-then-not-op-clause-answer : goal.returns-then-not-op-clause-answer
returns-then-not-op-clause-answer c beats items =
    rw c.if-not-op.true (c.read_cell.ensures.answer beats items)

pub write_cell-requires-clause-fit : goal.write_cell-requires-clause-fit
write_cell-requires-clause-fit c = c.requires.fit

pub returns-then-not-op-clause-state : goal.returns-then-not-op-clause-state
returns-then-not-op-clause-state c beats items = rw c.if-not-op.true (c.read_cell.ensures.state beats items)

pub returns-then-not-is_deaf-clause-fit : goal.returns-then-not-is_deaf-clause-fit
returns-then-not-is_deaf-clause-fit c = c.write_cell.ensures.fit

pub returns-then-not-is_deaf-clause-state : goal.returns-then-not-is_deaf-clause-state
returns-then-not-is_deaf-clause-state c beats items =
    let reached : is_deaf (setup_held c.args.board.now.tables) c.args.word.now.cell ≡ false = sym c.is_deaf.ensures ∙ c.if-not-is_deaf.true in
    rw (c.if-not-op.false, reached) (c.write_cell.ensures.state beats items)

pub returns-then-not-is_deaf-clause-answer : goal.returns-then-not-is_deaf-clause-answer
returns-then-not-is_deaf-clause-answer c beats items = rw c.if-not-op.false refl

pub returns-else-not-is_deaf-clause-state : goal.returns-else-not-is_deaf-clause-state
returns-else-not-is_deaf-clause-state c beats items =
    let deaf : is_deaf (setup_held c.args.board.now.tables) c.args.word.now.cell ≡ true = sym c.is_deaf.ensures ∙ c.if-not-is_deaf.false in
    rw (c.if-not-op.false, deaf) refl

pub returns-else-not-is_deaf-clause-answer : goal.returns-else-not-is_deaf-clause-answer
returns-else-not-is_deaf-clause-answer c beats items = rw c.if-not-op.false refl

pub write_cell-requires-clause-lanes : goal.write_cell-requires-clause-lanes
write_cell-requires-clause-lanes c = c.requires.word.lanes

pub write_cell-requires-clause-cell : goal.write_cell-requires-clause-cell
write_cell-requires-clause-cell c = c.requires.word.cell
