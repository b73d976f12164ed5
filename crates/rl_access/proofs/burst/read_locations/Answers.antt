use Rattle.std.proofs.Common.{◌≡◌, ◌+◌, ◌-◌, ap, sym, ◌∙◌, arith}
use Rattle.rl_access.specs.Runs.{reads_of}
use Rattle.rl_access.proofs.Bursting.{bursting_first, bursting_next, bursting_ended, bursting_stopped, bursting_broke}
use Rattle.rl_access.proofs.Running.{reads_left}
use Rattle.rl_access.proofs.burst.read_locations.Goals as goal

pub loop-index-init : goal.loop-index-init
loop-index-init g c = bursting_first g.R.Recorder c.args.rec.now _ _ _ _ c.requires.ready (ap (reads_of c.args.mem c.args.map c.args.first) (omega arith)) c.new-tally.ensures

pub loop-index-preserved : goal.loop-index-preserved
loop-index-preserved g c =
    let done = c.perform_on_memory_into.ensures in
    let told = c.in_ok-hand_over.ensures in
    bursting_next g.R.Recorder c.loop-index.invariant (reads_left c.args.mem c.args.map c.loop-index.index (c.args.first + c.args.count) c.loop-index-test.true) done.model done.does
    (sym c.is_bus_error.ensures ∙ c.if-is_bus_error.false) told.taken told.counted told.cause.later told.steady

pub returns-in_err-hand_over-clause-run : goal.returns-in_err-hand_over-clause-run
returns-in_err-hand_over-clause-run g c =
    bursting_broke g.R.Recorder c.from_residual.result c.from_residual.ensures.0 c.loop-index.invariant
    (reads_left c.args.mem c.args.map c.loop-index.index (c.args.first + c.args.count) c.loop-index-test.true) c.perform_on_memory_into.ensures.does c.in_err-hand_over.ensures.broken

pub returns-then-is_bus_error-clause-run : goal.returns-then-is_bus_error-clause-run
returns-then-is_bus_error-clause-run g c =
    let told = c.in_ok-hand_over.ensures in
    bursting_stopped g.R.Recorder c.loop-index.invariant (reads_left c.args.mem c.args.map c.loop-index.index (c.args.first + c.args.count) c.loop-index-test.true)
    c.perform_on_memory_into.ensures.does
    (sym c.is_bus_error.ensures ∙ c.if-is_bus_error.true) told.taken told.counted

pub returns-clause-run : goal.returns-clause-run
returns-clause-run g c = bursting_ended g.R.Recorder c.loop-index.invariant
    (ap (reads_of c.args.mem c.args.map c.loop-index.index) (let none : c.args.first + c.args.count - c.loop-index.index ≡ 0 = omega arith in none))
