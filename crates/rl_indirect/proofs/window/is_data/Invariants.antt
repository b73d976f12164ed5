use Rattle.std.proofs.Common.{◌≡◌, true, take}
use Rattle.std.specs.List.{list_all}
use Rattle.rl_model.specs.Fields.{fields_of}
use Rattle.rl_indirect.specs.Window.{is_data_field}
use Rattle.rl_indirect.proofs.window.is_data.Given as goal

abbrev pub invariant-loop-k : goal.invariant-loop-k
invariant-loop-k l = list_all (λ f. is_data_field f.shape) (take l.k (fields_of l.chip l.reg)) ≡ true
