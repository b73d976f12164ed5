use Rattle.std.proofs.Common.{map}
use Rattle.rl_seq.proofs.Turning.{at_part}
use Rattle.rl_seq.specs.Plan.{each_below}
use Rattle.rl_seq.proofs.Following.{WentOn}
use Rattle.rl_seq.proofs.walk.take_turn.Given as goal

abbrev pub invariant-loop-part : goal.invariant-loop-part
invariant-loop-part g l =
    let all = map (λ b. (goal.Adapter-dyn g (b.vtable, b.value)).standing b.value) in
    WentOn g.R.Recorder g.D.Device (all l.fn.run.adapters.now.items) (all l.run.adapters.now.items) l.fn.run l.run
    (each_below l.part (at_part l.fn.run.model.now.chip l.fn.run.model.now.layout l.visit l.turn))
