use Rattle.std.proofs.Common.{◌≡◌, ℕ, ◌<◌, ◌≤◌, length, get_or}
use Rattle.rl_model.specs.Fields.{fields_of}
use Rattle.rl_mirror.specs.Prediction.{after_reset}
use Rattle.rl_mirror.proofs.resets.reset_all.Given as goal

abbrev pub invariant-loop-reg : goal.invariant-loop-reg
invariant-loop-reg l = record {
  long : length l.values ≡ length l.initial.values;
  done : (n : ℕ) → n < l.reg → get_or l.values n 0 ≡ after_reset (fields_of l.chip n) l.kind (get_or l.initial.values n 0);
  left : (n : ℕ) → l.reg ≤ n → get_or l.values n 0 ≡ get_or l.initial.values n 0;
}
