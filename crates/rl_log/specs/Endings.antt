-- The status of a run by what it counted.
use Rattle.std.specs.Prelude.{◌≡◌, ◌==◌, ℕ, ◌+◌, ◌-◌, ◌^◌, min, Bool, true, false, ◌&&◌, if◌then◌else◌}
use Rattle.rl_log.specs.declared.counts.Counts.{Counts}
use Rattle.rl_log.specs.declared.status.Status.{Status}
use Rattle.rl_log.specs.declared.status.Status.TheVariants.{Passed, Found}

-- nothing differed, and nothing failed on the bus
abbrev pub is_clean : Counts → Bool
is_clean counts = counts.differences == 0 && counts.errors == 0

-- at the end of a script
abbrev pub end_status : Counts → Status
end_status counts = if is_clean counts then Passed else Found

-- A status that goes by the counts goes by these.
pub record IsCounted (status : Status) (counts : Counts) : Type 0 where
  pub passed : status ≡ Passed → is_clean counts ≡ true
  pub found : status ≡ Found → is_clean counts ≡ false

-- the sum of two counts, at most the end of 64 bits
abbrev pub both : ℕ → ℕ → ℕ
both a b = min (a + b) (2 ^ 64 - 1)

abbrev pub added : Counts → Counts → Counts
added a b = record {
  events = both a.events b.events;
  differences = both a.differences b.differences;
  errors = both a.errors b.errors;
}

-- The lines that were left ended by the counts of what happened, and the counts rose by these.
pub record PlayEnds (status : Status) (before after : Counts) : Type 0 where
  pub own : Counts
  pub risen : after ≡ added before own
  pub counted : IsCounted status own
