-- What went to the head has no separator, and the input is the head and what the reader gives from here on.
use Rattle.std.proofs.Common.{◌≡◌, ◌+◌, ◌-◌, ◌*◌, ◌≤◌, true, false, cond, length}
use Rattle.std.specs.Io.KnownBytes.{Keeps, prepend_known}
use Rattle.rl_report.specs.Reading.{input_of}
use Rattle.rl_report.specs.Taken.{Passes}
use Rattle.rl_report.proofs.lines.LineReader.read_head.Given as goal

abbrev pub invariant-loop-taken : goal.invariant-loop-taken
invariant-loop-taken g l =
    let left = g.S.Source.left in
    record {
      input : Keeps (input_of l.fn.self (left l.fn.source)) (prepend_known l.head.items (input_of l.self (left l.source)));
      passes : Passes l.head.items l.starts;
      few : length l.head.items ≤ 1048576;
      asked : l.self.asked ≡ true;
      found : l.self.found ≡ false;
      refused : l.self.refused ≡ l.fn.self.refused;
      ended : l.fn.self.ended ≡ true → l.self.ended ≡ true;
      closed : l.self.closed ≡ l.fn.self.closed;
      line : l.self.line ≡ l.fn.self.line;
      later : g.S.Source.faults l.fn.source ≤ g.S.Source.faults l.source;
    }

abbrev pub decreases-loop-taken : goal.decreases-loop-taken
decreases-loop-taken g l = 8 * (1048577 - length l.head.items) + cond l.self.ended 0 (6 - length l.self.pending)
