use Rattle.std.proofs.Common.{◌≡◌}
use Rattle.toml.specs.View.{members_view}
use Rattle.rl_desc.specs.Shapes.{may_be_numbers}
use Rattle.rl_desc.proofs.value.may_be_numbers.Given as goal

abbrev pub invariant-loop-value : goal.invariant-loop-value
invariant-loop-value l = may_be_numbers (members_view l.value-iterator) ≡ may_be_numbers (members_view l.table.entries)
