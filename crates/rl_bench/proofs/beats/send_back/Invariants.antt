use Rattle.std.proofs.Common.{◌≡◌, ℕ, take, if◌then◌else◌}
use Rattle.std.specs.Prelude.{slice_index}
use Rattle.std.specs.List.{list_any}
use Rattle.rl_bench.specs.Beats.{is_queue}
use Rattle.rl_bench.proofs.beats.send_back.Given as goal

abbrev pub invariant-loop-queue : goal.invariant-loop-queue
invariant-loop-queue l = (k : ℕ) → slice_index l.beats k ≡ (if list_any (is_queue k l.place) (take l.queue-index l.queues) then 0 else slice_index l.initial.beats k)
