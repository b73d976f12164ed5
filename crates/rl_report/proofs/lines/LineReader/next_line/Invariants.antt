-- What the reader gives from here on stays, and so do its last line and the source's count. A reader that needn't read hasn't.
use Rattle.std.proofs.Common.{◌≡◌, ◌-◌, ◌≤◌, true, false, cond, length}
use Rattle.std.specs.Io.KnownBytes.{Keeps}
use Rattle.rl_report.specs.Reading.{input_of, HoldsLine}
use Rattle.rl_report.proofs.lines.LineReader.next_line.Given as goal

abbrev pub invariant-loop-got : goal.invariant-loop-got
invariant-loop-got g l =
    let left = g.S.Source.left in
    record {
      input : Keeps (input_of l.initial.self (left l.initial.source)) (input_of l.self (left l.source));
      line : l.self.line ≡ l.initial.self.line;
      refused : l.self.refused ≡ false;
      asked : l.self.asked ≡ l.initial.self.asked;
      found : l.self.found ≡ l.initial.self.found;
      holds : HoldsLine l.initial.self → l.self.pending ≡ l.initial.self.pending;
      empty : l.initial.self.ended ≡ true → l.self.pending ≡ l.initial.self.pending;
      unread : HoldsLine l.initial.self → l.source ≡ l.initial.source;
      unread_at_end : l.initial.self.ended ≡ true → l.source ≡ l.initial.source;
      closed : l.self.closed ≡ l.initial.self.closed;
      stays_ended : l.initial.self.ended ≡ true → l.self.ended ≡ true;
      later : g.S.Source.faults l.initial.source ≤ g.S.Source.faults l.source;
    }

abbrev pub decreases-loop-got : goal.decreases-loop-got
decreases-loop-got g l = cond l.self.ended 0 (4098 - length l.self.pending)
