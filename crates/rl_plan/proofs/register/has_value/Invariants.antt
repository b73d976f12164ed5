-- None of the fields so far has a value.
use Rattle.std.proofs.Common.{◌≡◌, false, take}
use Rattle.std.specs.List.{list_any}
use Rattle.rl_model.specs.Fields.{fields_of}
use Rattle.rl_plan.proofs.Fields.{has_value_for}
use Rattle.rl_plan.proofs.register.has_value.Given as goal

abbrev pub invariant-loop-k : goal.invariant-loop-k
invariant-loop-k l = list_any (has_value_for l.kind) (take l.k (fields_of l.chip l.reg)) ≡ false
