-- What is left from here on, behind the finds so far, brings the finds of all.
use Rattle.std.proofs.Common.{length, map, drop, Some}
use Rattle.rl_access.specs.Model.{IsReady, IsSameChip}
use Rattle.rl_access.specs.World.{world}
use Rattle.rl_bench.specs.State.{bench_state}
use Rattle.rl_grade.specs.Job.{heard_by}
use Rattle.rl_grade.proofs.Sorting.{Going}
use Rattle.rl_grade.proofs.sort.sort_tasks.Given as goal

abbrev pub invariant-loop-task : goal.invariant-loop-task
invariant-loop-task g l = record {
  ready : IsReady l.model (map (λ b. (goal.Adapter-dyn g (b.vtable, b.value)).standing b.value) l.adapters.items)
      (Some (bench_state l.bench));
  parts : IsSameChip l.initial.model l.model;
  going : Going l.initial.model.chip (length l.initial.model.chip.regs) l.base
      (heard_by (world l.initial.model
      (map (λ b. (goal.Adapter-dyn g (b.vtable, b.value)).standing b.value) l.initial.adapters.items)
      (bench_state l.initial.bench)) l.tasks)
      l.sort.base.now l.sort.found.items
      (heard_by (world l.model (map (λ b. (goal.Adapter-dyn g (b.vtable, b.value)).standing b.value) l.adapters.items)
      (bench_state l.bench)) (drop l.task-index l.tasks));
}
