use Rattle.std.proofs.Common.{◌≡◌, ℕ, ◌<◌, ◌||◌, false, length, get_or}
use Rattle.rl_mirror.proofs.SpentLemmas.{is_spent_so_far}
use Rattle.rl_mirror.proofs.fields.spend.Given as goal

abbrev pub invariant-loop-k : goal.invariant-loop-k
invariant-loop-k l = record {
  long : length l.spent ≡ length l.initial.spent;
  marks : (n : ℕ) → n < length l.initial.spent → get_or l.spent n false ≡ (get_or l.initial.spent n false || is_spent_so_far l.chip l.reg l.fields l.k n);
}
