-- Why a run ended.
use Rattle.std.specs.Prelude.{◌≡◌, ◌≢◌, ℕ}
use Rattle.rl_bus.specs.Causes.{Rose}
use Rattle.rl_log.specs.declared.status.Status.{Status}
use Rattle.rl_log.specs.declared.status.Status.TheVariants.{SourceFault, SinkFault, Words}

-- A fault is answered only where its count rose, and the words were understood.
pub record IsCaused (status : Status) (source source_now sink sink_now : ℕ) : Type 0 where
  pub source_fault : status ≡ SourceFault → Rose source source_now
  pub sink_fault : status ≡ SinkFault → Rose sink sink_now
  pub known : status ≢ Words

-- No call failed: the count of faults didn't rise.
abbrev pub NoneFailed : (before now : ℕ) → Type 0
NoneFailed before now = Rose before now → ⊥
