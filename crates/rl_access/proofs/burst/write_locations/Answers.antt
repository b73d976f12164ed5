use Rattle.std.proofs.Common.{◌+◌, ap, sym, ◌∙◌, add-zero}
use Rattle.std.proofs.lemmas.List.{drop_all}
use Rattle.rl_access.specs.Runs.{writes_of}
use Rattle.rl_access.proofs.Bursting.{bursting_first, bursting_next, bursting_ended, bursting_stopped, bursting_broke}
use Rattle.rl_access.proofs.Running.{writes_left}
use Rattle.rl_access.proofs.burst.write_locations.Goals as goal

pub loop-k-init : goal.loop-k-init
loop-k-init g c = bursting_first g.R.Recorder c.args.rec.now _ _ _ _ c.requires.ready (ap (λ n. writes_of c.args.mem c.args.map n c.args.values.now) (add-zero c.args.first)) c.new-tally.ensures

pub loop-k-preserved : goal.loop-k-preserved
loop-k-preserved g c =
    let done = c.perform_on_memory_into.ensures in
    let told = c.in_ok-hand_over.ensures in
    bursting_next g.R.Recorder c.loop-k.invariant (writes_left c.args.mem c.args.map c.args.first c.loop-k.k c.args.values.now 0 c.loop-k-test.true) done.model done.does
    (sym c.is_bus_error.ensures ∙ c.if-is_bus_error.false) told.taken told.counted told.cause.later told.steady

pub returns-in_err-hand_over-clause-run : goal.returns-in_err-hand_over-clause-run
returns-in_err-hand_over-clause-run g c =
    bursting_broke g.R.Recorder c.from_residual.result c.from_residual.ensures.0 c.loop-k.invariant
    (writes_left c.args.mem c.args.map c.args.first c.loop-k.k c.args.values.now 0 c.loop-k-test.true) c.perform_on_memory_into.ensures.does c.in_err-hand_over.ensures.broken

pub returns-then-is_bus_error-clause-run : goal.returns-then-is_bus_error-clause-run
returns-then-is_bus_error-clause-run g c =
    let told = c.in_ok-hand_over.ensures in
    bursting_stopped g.R.Recorder c.loop-k.invariant (writes_left c.args.mem c.args.map c.args.first c.loop-k.k c.args.values.now 0 c.loop-k-test.true) c.perform_on_memory_into.ensures.does
    (sym c.is_bus_error.ensures ∙ c.if-is_bus_error.true) told.taken told.counted

pub returns-clause-run : goal.returns-clause-run
returns-clause-run g c = bursting_ended g.R.Recorder c.loop-k.invariant
    (ap (writes_of c.args.mem c.args.map (c.args.first + c.loop-k.k)) (drop_all c.loop-k.k c.args.values.now c.loop-k-test.false))
