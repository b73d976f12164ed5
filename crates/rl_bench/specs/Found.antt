-- What an item finds on a board.
use Rattle.std.specs.Prelude.{ℕ, Bool, not, ◌||◌, ◌==◌, List, slice_index}
use Rattle.rl_bus.specs.declared.op.BusOp.{BusOp}
use Rattle.rl_bus.specs.declared.table.WordRow.{WordRow}
use Rattle.rl_bus.specs.Setup.{Setup, words_at, is_named}
use Rattle.rl_bench.specs.declared.board.Board.{Board}
use Rattle.rl_bench.specs.Beats.{beats_of}
use Rattle.rl_bench.specs.Tables.{setup_held}

-- the words of all places
abbrev pub words_on : Board → List WordRow
words_on board = (setup_held board.tables).words

-- the words of an item's direction at its address
abbrev pub words_for : Board → ℕ → BusOp → List WordRow
words_for board port op = words_at (setup_held board.tables) port op.address op.write

-- the beat of an item's address
abbrev pub beat_for : Board → (beats : List ℕ) → ℕ → BusOp → ℕ
beat_for board beats port op = beats_of (words_on board) beats port op.address

-- the width isn't the port's, or a flaw names the item by its address or its number
abbrev pub item_is_faulty : Setup → ℕ → BusOp → (count : ℕ) → Bool
item_is_faulty t port op count = not (op.bytes == slice_index t.ports port) || is_named t port op.address count
