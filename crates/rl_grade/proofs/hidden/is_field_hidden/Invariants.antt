-- The bits below this one are hidden.
use Rattle.std.proofs.Common.{◌≡◌, ℕ, ◌<◌, true}
use Rattle.rl_model.specs.Fields.{field_of}
use Rattle.rl_grade.specs.Hidden.{is_bit_hidden}
use Rattle.rl_grade.proofs.hidden.is_field_hidden.Given as goal

abbrev pub invariant-loop-i : goal.invariant-loop-i
invariant-loop-i l = (j : ℕ) → j < l.i → is_bit_hidden l.ways l.bit (field_of l.chip l.field) j ≡ true
