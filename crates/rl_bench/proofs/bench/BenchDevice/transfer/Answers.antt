use Rattle.std.proofs.Common.{refl, ap, ◌∙◌}
use Rattle.rl_bus.specs.declared.op.Answer.{Answer}
use Rattle.rl_bench.specs.State.{bench_state, item_fails}
use Rattle.rl_bench.proofs.NamedLemmas.{failed_is}
use Rattle.rl_bench.proofs.StepLemmas.{carried_width, carried_lanes}
use Rattle.rl_bench.proofs.bench.BenchDevice.transfer.Goals as goal

pub item-answer-requires-clause-port : goal.item-answer-requires-clause-port
item-answer-requires-clause-port c = c.requires.port (bench_state c.args.self.now) refl

pub item-answer-requires-clause-width : goal.item-answer-requires-clause-width
item-answer-requires-clause-width c = rw c.carried-op.ensures (carried_width c.args.transfer.now c.requires.well_formed)

pub item-answer-requires-clause-lanes : goal.item-answer-requires-clause-lanes
item-answer-requires-clause-lanes c = rw c.carried-op.ensures (carried_lanes c.args.transfer.now c.requires.well_formed)

pub returns-clause-fails : goal.returns-clause-fails
returns-clause-fails c =
    let s = bench_state c.args.self.now in
    ap (λ (a : Answer). a.failed) (c.response_to.ensures.answer ∙ c.item-answer.ensures.answer)
    ∙ failed_is s c.args.port c.carried-op.result c.args.self.now.named
    ∙ ap (item_fails s c.args.port) c.carried-op.ensures
