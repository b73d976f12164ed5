use Rattle.std.proofs.Common.{refl, ap, Some}
use Rattle.rl_bench.specs.Beats.{beats_of}
use Rattle.rl_bench.specs.State.{bench_state}
use Rattle.rl_bench.proofs.bench.BenchDevice.hw.Goals as goal

pub set_field-requires-clause-field : goal.set_field-requires-clause-field
set_field-requires-clause-field c = c.requires.field (bench_state c.args.self.now) refl

pub returns-clause-step : goal.returns-clause-step
returns-clause-step c =
    let b = c.args.self.now in
    ap Some (c.set_field.ensures.state (beats_of b.board.tables.words.value.items b.beats.items) b.items)
