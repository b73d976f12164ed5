-- The counts of faults don't fall, and the reader may be asked for more lines.
use Rattle.std.proofs.Common.{◌≡◌, ◌-◌, ◌+◌, ◌≤◌, ℕ, List, map, true, false, IfSome}
use Rattle.std.specs.declared.option.Option.{Option}
use Rattle.std.specs.declared.option.Option.TheVariants.{None}
use Rattle.rl_play.specs.Leaves.{Leaves}
use Rattle.rl_play.specs.Played.{PassesTo}
use Rattle.rl_report.specs.Reading.{input_of}
use Rattle.rl_weave_log.specs.Stage.{StaysAt, setting_on}
use Rattle.rl_weave_log.specs.Turns.{Breaks, IsGathering, coming}
use Rattle.rl_weave_log.proofs.weaving.weave_all.Given as goal

abbrev pub invariant-loop-number : goal.invariant-loop-number
invariant-loop-number g l =
    let all = map (λ b. (goal.Adapter-dyn g (b.vtable, b.value)).standing b.value) in
    let left = g.S.Source.left in
    let begun = l.fn.stage in
    let first = setting_on g.D.Device g.L.Sink (all begun.adapters.now.items) l.fn.script begun in
    let now = setting_on g.D.Device g.L.Sink (all l.stage.adapters.now.items) l.script l.stage in
    record {
      stays : StaysAt g.D.Device (all l.stage.adapters.now.items) begun l.stage;
      group : IsGathering l.stage.model.now l.script.weave;
      found : l.lines.found ≡ true;
      going : l.lines.refused ≡ false;
      ended : l.initial.lines.ended ≡ true → l.lines.ended ≡ true;
      in_range : l.number ≤ 1000001;
      leaves : Leaves g.L.Sink (g.S.Source.faults l.initial.source) (g.S.Source.faults l.source) begun.out.now l.stage.out.now None;
      going_on : IfSome (coming 1 first first.device (input_of l.initial.lines (left l.initial.source)))
          (λ e. PassesTo e (coming l.number now now.device (input_of l.lines (left l.source))) first.text now.text);
      breaking : l.lines.ended ≡ false → (rest last : Option (List ℕ))
          → Breaks l.number now now.device (input_of l.lines (left l.source)) rest last
          → Breaks 1 first first.device (input_of l.initial.lines (left l.initial.source)) rest last;
    }

abbrev pub decreases-loop-number : goal.decreases-loop-number
decreases-loop-number g l = 1000002 - l.number
