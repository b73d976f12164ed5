-- The counts of faults don't fall, and the reader may be asked for more lines.
use Rattle.std.proofs.Common.{◌≡◌, ◌-◌, ◌≤◌, ℕ, List, map, true, false, IfSome}
use Rattle.std.specs.declared.option.Option.{Option}
use Rattle.std.specs.declared.option.Option.TheVariants.{None}
use Rattle.rl_access.specs.Model.{ModelData, IsReady, IsSameChip}
use Rattle.rl_bus.specs.Standing.{Standing}
use Rattle.rl_bus.specs.State.{State}
use Rattle.rl_report.specs.Reading.{input_of}
use Rattle.rl_log.specs.declared.counts.Counts.{Counts}
use Rattle.rl_log.specs.declared.status.Status.{Status}
use Rattle.rl_access.specs.Call.{scene}
use Rattle.rl_play.specs.AnyDevice.{Point, PlaysCut, PlaysInput}
use Rattle.rl_play.specs.Done.{Does}
use Rattle.rl_play.specs.Leaves.{Leaves}
use Rattle.rl_play.specs.Played.{coming, Breaks, KeepsCut, PassesTo}
use Rattle.rl_play.proofs.playing.play_lines.Given as goal

abbrev pub invariant-loop-number : goal.invariant-loop-number
invariant-loop-number g l =
    record {
      ready : IsReady l.model (map (λ b. (goal.Adapter-dyn g (b.vtable, b.value)).standing b.value) l.adapters.items)
          (g.D.Device.state l.device);
      parts : IsSameChip l.initial.model l.model;
      found : l.lines.found ≡ true;
      going : l.lines.refused ≡ false;
      ended : l.initial.lines.ended ≡ true → l.lines.ended ≡ true;
      in_range : l.number ≤ 1000001;
      leaves : Leaves g.L.Sink (g.S.Source.faults l.initial.source) (g.S.Source.faults l.source) l.initial.out l.out None;
      going_on : IfSome (coming 1 l.initial.counts l.initial.model
          (map (λ b. (goal.Adapter-dyn g (b.vtable, b.value)).standing b.value) l.initial.adapters.items)
          (g.D.Device.state l.initial.device) (input_of l.initial.lines (g.S.Source.left l.initial.source)))
          (λ e. PassesTo e (coming l.number l.counts l.model
          (map (λ b. (goal.Adapter-dyn g (b.vtable, b.value)).standing b.value) l.adapters.items)
          (g.D.Device.state l.device) (input_of l.lines (g.S.Source.left l.source)))
          (g.L.Sink.written l.initial.out) (g.L.Sink.written l.out));
      breaking : l.lines.ended ≡ false → (left last : Option (List ℕ)) → Breaks l.number l.model
          (map (λ b. (goal.Adapter-dyn g (b.vtable, b.value)).standing b.value) l.adapters.items)
          (g.D.Device.state l.device) (input_of l.lines (g.S.Source.left l.source)) left (g.L.Sink.written l.out) last
          → Breaks 1 l.initial.model
          (map (λ b. (goal.Adapter-dyn g (b.vtable, b.value)).standing b.value) l.initial.adapters.items)
          (g.D.Device.state l.initial.device) (input_of l.initial.lines (g.S.Source.left l.initial.source)) left
          (g.L.Sink.written l.initial.out) last;
      cutting : l.lines.ended ≡ false → (next others : Option (List ℕ))
          → KeepsCut (input_of l.lines (g.S.Source.left l.source)) next others
          → KeepsCut (input_of l.initial.lines (g.S.Source.left l.initial.source)) next others;
      doing : (total : Counts) (last : ModelData) (standings : List Standing) (state : Option State)
          → Does l.number l.model
          (map (λ b. (goal.Adapter-dyn g (b.vtable, b.value)).standing b.value) l.adapters.items)
          (g.D.Device.state l.device) (input_of l.lines (g.S.Source.left l.source)) l.counts total last standings state
          → Does 1 l.initial.model
          (map (λ b. (goal.Adapter-dyn g (b.vtable, b.value)).standing b.value) l.initial.adapters.items)
          (g.D.Device.state l.initial.device)
          (input_of l.initial.lines (g.S.Source.left l.initial.source)) l.initial.counts total last standings state;
      playing : (last : Point) (status : Status) → PlaysInput l.number
          (record {
            scene = scene l.model (map (λ b. (goal.Adapter-dyn g (b.vtable, b.value)).standing b.value) l.adapters.items)
                (g.D.Device.account l.device) (g.D.Device.state l.device);
            text = g.L.Sink.written l.out;
            counts = l.counts;
          }) (input_of l.lines (g.S.Source.left l.source)) last status
          → PlaysInput 1
          (record {
            scene = scene l.initial.model (map (λ b. (goal.Adapter-dyn g (b.vtable, b.value)).standing b.value) l.initial.adapters.items)
                (g.D.Device.account l.initial.device) (g.D.Device.state l.initial.device);
            text = g.L.Sink.written l.initial.out;
            counts = l.initial.counts;
          }) (input_of l.initial.lines (g.S.Source.left l.initial.source)) last status;
      taking : l.lines.ended ≡ false → (left : Option (List ℕ)) (last : Point) → PlaysCut l.number
          (record {
            scene = scene l.model (map (λ b. (goal.Adapter-dyn g (b.vtable, b.value)).standing b.value) l.adapters.items)
                (g.D.Device.account l.device) (g.D.Device.state l.device);
            text = g.L.Sink.written l.out;
            counts = l.counts;
          }) (input_of l.lines (g.S.Source.left l.source)) left last
          → PlaysCut 1
          (record {
            scene = scene l.initial.model (map (λ b. (goal.Adapter-dyn g (b.vtable, b.value)).standing b.value) l.initial.adapters.items)
                (g.D.Device.account l.initial.device) (g.D.Device.state l.initial.device);
            text = g.L.Sink.written l.initial.out;
            counts = l.initial.counts;
          }) (input_of l.initial.lines (g.S.Source.left l.initial.source)) left last;
    }

abbrev pub decreases-loop-number : goal.decreases-loop-number
decreases-loop-number g l = 1000002 - l.number
