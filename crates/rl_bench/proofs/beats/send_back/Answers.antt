use Rattle.std.proofs.Common.{ap, ◌∙◌}
use Rattle.std.specs.Prelude.{slice_index}
use Rattle.rl_bench.proofs.QueueLemmas.{set_step, skip_step}
use Rattle.rl_bench.proofs.beats.send_back.Goals as goal
use Rattle.rl_bench.proofs.beats.send_back.Goals.{then-queue-place, else-queue-place}

pub loop-queue-preserved : goal.loop-queue-preserved
loop-queue-preserved c =
    let queues = c.args.queues.now in
    let old = c.args.beats.now in
    let i = c.loop-queue.queue-index in
    let was = c.loop-queue.invariant in
    let l = c.loop-queue-test.true in
    λ k. elim c.if-queue-place.branch [
      | then-queue-place w ↦ ap (λ xs. slice_index xs k) (w.beats-is ∙ w.set_at.ensures) ∙ set_step queues c.loop-queue.beats old c.args.place i k _ l w.if-queue-place.true (was k)
      | else-queue-place w ↦ ap (λ xs. slice_index xs k) w.beats-is ∙ skip_step queues c.loop-queue.beats old c.args.place i k _ l w.if-queue-place.false (was k)
    ]
