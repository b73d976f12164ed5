-- The counts of faults don't fall, the reader may be asked for more lines, and what is drawn of the rest makes the whole.
use Rattle.std.proofs.Common.{◌≡◌, ◌-◌, ◌≤◌, ℕ, List, map, true, false, IfSome}
use Rattle.std.specs.declared.option.Option.{Option}
use Rattle.std.specs.declared.option.Option.TheVariants.{None}
use Rattle.rl_access.specs.Model.{IsReady, IsSameChip}
use Rattle.rl_log.specs.declared.status.Status.{Status}
use Rattle.rl_log.specs.declared.status.Status.TheVariants.{SourceFault}
use Rattle.rl_play.specs.AnyDevice.{Point, moment_at}
use Rattle.rl_play.specs.Leaves.{Leaves}
use Rattle.rl_play.specs.Played.{BreaksFrom, PassesTo, to_come}
use Rattle.rl_report.specs.Reading.{input_of}
use Rattle.rl_vcd.specs.declared.dump.Dump.{Dump}
use Rattle.rl_vcd.specs.Lines.{DrawsInput}
use Rattle.rl_vcd.specs.Playing.{IsSamePen, spot_of}
use Rattle.rl_vcd.proofs.session.Session.run_script.Given as goal

abbrev pub invariant-loop-number : goal.invariant-loop-number
invariant-loop-number g l =
    let first : Point = spot_of g.L.Sink l.initial.self
    (map (λ b. (goal.Adapter-dyn g (b.vtable, b.value)).standing b.value) l.initial.adapters.items) in
    let now : Point = spot_of g.L.Sink l.self (map (λ b. (goal.Adapter-dyn g (b.vtable, b.value)).standing b.value) l.adapters.items) in
    let input : Option (List ℕ) = input_of l.initial.lines (g.S.Source.left l.initial.source) in
    let rest : Option (List ℕ) = input_of l.lines (g.S.Source.left l.source) in
    record {
      ready : IsReady now.scene.model now.scene.adapters now.scene.device;
      parts : IsSameChip l.initial.self.model.now l.self.model.now;
      found : l.lines.found ≡ true;
      going : l.lines.refused ≡ false;
      ended : l.initial.lines.ended ≡ true → l.lines.ended ≡ true;
      in_range : l.number ≤ 1000001;
      leaves : Leaves g.L.Sink (g.S.Source.faults l.initial.source) (g.S.Source.faults l.source)
          l.initial.self.pen.log.now l.self.pen.log.now None;
      same : IsSamePen l.initial.self.pen l.self.pen;
      going_on : IfSome (to_come 1 (moment_at first) input)
          (λ e. PassesTo e (to_come l.number (moment_at now) rest) first.text now.text);
      breaking : l.lines.ended ≡ false → (left last : Option (List ℕ)) → BreaksFrom l.number (moment_at now) rest left last
          → BreaksFrom 1 (moment_at first) input left last;
      drawing : (left : Option (List ℕ)) (last : Point) (status : Status) (dump : Dump _)
          → (status ≡ SourceFault → l.lines.ended ≡ false)
          → DrawsInput g.K.Sink l.number now rest left last status l.self.pen.dump.now dump
          → DrawsInput g.K.Sink 1 first input left last status l.initial.self.pen.dump.now dump;
    }

abbrev pub decreases-loop-number : goal.decreases-loop-number
decreases-loop-number g l = 1000002 - l.number
