use Rattle.std.proofs.Common.{refl}
use Rattle.rl_bench.specs.State.{bench_state}
use Rattle.rl_bench.proofs.bench.BenchDevice.peek.Goals as goal

pub peek_cell-requires-clause-cell : goal.peek_cell-requires-clause-cell
peek_cell-requires-clause-cell c = c.requires.cell (bench_state c.args.self.now) refl
