-- The deafness shows at none of the fields below this one.
use Rattle.std.proofs.Common.{◌≡◌, ℕ, ◌<◌, true}
use Rattle.rl_model.specs.Fields.{field_of}
use Rattle.rl_grade.specs.Hidden.{is_deaf_hidden}
use Rattle.rl_grade.proofs.hidden.is_deafness_hidden.Given as goal

abbrev pub invariant-loop-field : goal.invariant-loop-field
invariant-loop-field l = (j : ℕ) → j < l.field → is_deaf_hidden l.ways l.reg (field_of l.chip j) ≡ true
