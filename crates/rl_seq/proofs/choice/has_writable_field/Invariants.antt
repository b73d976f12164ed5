use Rattle.std.proofs.Common.{◌≡◌, ◌+◌, false, not}
use Rattle.rl_model.specs.Fields.{field_of, first_of}
use Rattle.rl_seq.specs.Choice.{any_below, is_read_only}
use Rattle.rl_seq.proofs.choice.has_writable_field.Given as goal

abbrev pub invariant-loop-k : goal.invariant-loop-k
invariant-loop-k l = any_below l.k (λ k. not (is_read_only (field_of l.chip (first_of l.chip l.reg + k)).shape.policy)) ≡ false
