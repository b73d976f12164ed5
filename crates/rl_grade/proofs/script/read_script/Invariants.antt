-- The tasks so far, and then what is left, are what the lines ask for.
use Rattle.std.proofs.Common.{◌≡◌, ◌≤◌, ◌-◌, true, false, length, IfSome}
use Rattle.rl_report.specs.Reading.{input_of}
use Rattle.rl_grade.specs.Job.{TasksFit}
use Rattle.rl_grade.proofs.Reading.{IsReadTo}
use Rattle.rl_grade.proofs.script.read_script.Given as goal

abbrev pub invariant-loop-tasks : goal.invariant-loop-tasks
invariant-loop-tasks g l = record {
  found : l.lines.found ≡ true;
  going : l.lines.refused ≡ false;
  in_range : l.number ≤ 1000001;
  later : g.S.Source.faults l.initial.source ≤ g.S.Source.faults l.source;
  fits : TasksFit l.model.chip (length l.model.layout.maps) l.tasks.items;
  reading : IfSome (input_of l.initial.lines (g.S.Source.left l.initial.source))
      (λ bytes. IsReadTo l.model bytes l.tasks.items l.number (input_of l.lines (g.S.Source.left l.source)));
}

abbrev pub decreases-loop-tasks : goal.decreases-loop-tasks
decreases-loop-tasks g l = 1000002 - l.number
