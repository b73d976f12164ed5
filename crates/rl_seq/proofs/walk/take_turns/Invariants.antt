use Rattle.std.proofs.Common.{map}
use Rattle.rl_seq.specs.Visits.{turn_of}
use Rattle.rl_seq.specs.Plan.{each_below}
use Rattle.rl_seq.proofs.Following.{WentOn}
use Rattle.rl_seq.proofs.walk.take_turns.Given as goal

abbrev pub invariant-loop-turn : goal.invariant-loop-turn
invariant-loop-turn g l =
    let all = map (λ b. (goal.Adapter-dyn g (b.vtable, b.value)).standing b.value) in
    WentOn g.R.Recorder g.D.Device (all l.fn.run.adapters.now.items) (all l.run.adapters.now.items) l.fn.run l.run
    (each_below l.turn (turn_of l.fn.run.model.now.chip l.fn.run.model.now.layout l.visit))
