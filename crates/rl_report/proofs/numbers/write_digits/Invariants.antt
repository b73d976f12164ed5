-- The digits still to write, and then those written, are all.
use Rattle.std.proofs.Common.{◌≡◌, ◌≤◌, ◌%◌, ◌++◌, length, drop}
use Rattle.io.specs.Digits.{last_digits}
use Rattle.rl_report.specs.Numbers.{padded}
use Rattle.rl_report.proofs.numbers.write_digits.Given as goal

abbrev pub invariant-loop-at : goal.invariant-loop-at
invariant-loop-at l =
    record {
      full : length l.text ≡ length l.initial.text;
      within : l.at ≤ length l.initial.text;
      even : l.at % 2 ≡ 0;
      put : last_digits 16 l.at l.rest ++ drop l.at l.text ≡ padded (length l.initial.text) l.n;
    }

abbrev pub decreases-loop-at : goal.decreases-loop-at
decreases-loop-at l = l.at
