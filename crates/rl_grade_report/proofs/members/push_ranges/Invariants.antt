-- The numbers from the next one on are left.
use Rattle.std.proofs.Common.{◌≡◌, ◌-◌, ◌++◌, length}
use Rattle.std.specs.List.{flat_map, range_with_len}
use Rattle.rl_grade_report.specs.Members.{number_text, ranges_text}
use Rattle.rl_grade_report.proofs.members.push_ranges.Given as goal

abbrev pub invariant-loop-place : goal.invariant-loop-place
invariant-loop-place l =
    l.text.items ++ flat_map (number_text l.numbers) (range_with_len l.place (length l.numbers - l.place))
    ≡ l.initial.text.items ++ ranges_text l.numbers
