-- The keys so far were appended.
use Rattle.std.proofs.Common.{◌≡◌, ◌++◌, take}
use Rattle.std.specs.Prelude.{flat_map}
use Rattle.rl_grade_report.specs.Keys.{key_text, said_by}
use Rattle.rl_grade_report.proofs.keys.push_keys.Given as goal

abbrev pub invariant-loop-key : goal.invariant-loop-key
invariant-loop-key l =
    l.text.items ≡ l.initial.text.items ++ flat_map (λ k. key_text l.form (said_by k)) (take l.key-index l.keys)
