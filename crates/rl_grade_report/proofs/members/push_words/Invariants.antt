-- The words of the flaws so far were appended.
use Rattle.std.proofs.Common.{◌≡◌, ◌++◌, take}
use Rattle.rl_grade_report.specs.Members.{words_text}
use Rattle.rl_grade_report.proofs.members.push_words.Given as goal

abbrev pub invariant-loop-flaw : goal.invariant-loop-flaw
invariant-loop-flaw l = l.text.items ≡ l.initial.text.items ++ words_text (take l.flaw-index l.flaws)
