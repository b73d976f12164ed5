-- None of the fields so far is compared.
use Rattle.std.proofs.Common.{◌≡◌, false, take}
use Rattle.std.specs.List.{list_any}
use Rattle.rl_model.specs.Fields.{fields_of}
use Rattle.rl_plan.proofs.Fields.{is_compared_field}
use Rattle.rl_plan.proofs.register.is_seen.Given as goal

abbrev pub invariant-loop-k : goal.invariant-loop-k
invariant-loop-k l = list_any is_compared_field (take l.k (fields_of l.chip l.reg)) ≡ false
