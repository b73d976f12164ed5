use Rattle.std.proofs.Common.{map}
use Rattle.rl_seq.specs.Sequences.{visit_all}
use Rattle.rl_seq.specs.Plan.{each_below}
use Rattle.rl_seq.proofs.Following.{WentOn}
use Rattle.rl_seq.proofs.walk.walk.Given as goal

abbrev pub invariant-loop-number : goal.invariant-loop-number
invariant-loop-number g l =
    let all = map (λ b. (goal.Adapter-dyn g (b.vtable, b.value)).standing b.value) in
    WentOn g.R.Recorder g.D.Device (all l.fn.run.adapters.now.items) (all l.run.adapters.now.items) l.fn.run l.run
    (each_below l.number (visit_all l.sequence l.fn.run.model.now.chip l.fn.run.model.now.layout l.block))
