use Rattle.std.proofs.Common.{refl, ap, Some}
use Rattle.rl_bench.specs.Beats.{beats_of}
use Rattle.rl_bench.specs.State.{bench_state}
use Rattle.rl_bench.proofs.bench.BenchDevice.poke.Goals as goal

pub poke_cell-requires-clause-cell : goal.poke_cell-requires-clause-cell
poke_cell-requires-clause-cell c = c.requires.cell (bench_state c.args.self.now) refl

pub returns-clause-step : goal.returns-clause-step
returns-clause-step c =
    let b = c.args.self.now in
    ap Some (c.poke_cell.ensures.state (beats_of b.board.tables.words.value.items b.beats.items) b.items)
