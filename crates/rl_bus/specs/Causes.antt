-- Counts of failures, which never fall. One that is kept in 64 bits stays at its end.
use Rattle.std.specs.Prelude.{ℕ, ◌+◌, ◌-◌, ◌^◌, ◌≤◌, min, IsTrue, Result, OnErr}
use Rattle.rl_bus.specs.declared.op.Answer.{Answer}

-- the count is larger than before, or stands at its end
abbrev pub Rose : ℕ → ℕ → Type 0
Rose before now = min (before + 1) (2 ^ 64 - 1) ≤ now

-- the count hasn't fallen, and rose where the call failed
pub record HasCause {T E : Type 0} (before now : ℕ) (result : Result T E) : Type 0 where
  pub later : before ≤ now
  pub failed : OnErr result (Rose before now)

-- the count hasn't fallen, and rose where the answer failed
pub record AnswerHasCause (before now : ℕ) (answer : Answer) : Type 0 where
  pub later : before ≤ now
  pub failed : IsTrue answer.failed → Rose before now
