use Rattle.std.proofs.Common.{◌≤◌, length, map}
use Rattle.rl_seq.specs.Sequences.{visit}
use Rattle.rl_seq.specs.Plan.{each_below}
use Rattle.rl_seq.proofs.Following.{WentOn}
use Rattle.rl_seq.proofs.walk.visit_places.Given as goal

abbrev pub invariant-loop-place : goal.invariant-loop-place
invariant-loop-place g l =
    let all = map (λ b. (goal.Adapter-dyn g (b.vtable, b.value)).standing b.value) in
    record {
      within : l.place ≤ length l.fn.run.model.now.layout.places;
      went : WentOn g.R.Recorder g.D.Device (all l.fn.run.adapters.now.items) (all l.run.adapters.now.items) l.fn.run l.run
          (each_below l.place (visit l.sequence l.fn.run.model.now.chip l.fn.run.model.now.layout l.number));
    }
