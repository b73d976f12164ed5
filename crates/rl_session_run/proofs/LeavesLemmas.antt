-- What is left of source and sink where a session was opened, or ended.
use Rattle.std.proofs.Common.{ℕ, ◌≤◌, Some, None, refl, arith}
use Rattle.rl_report.specs.declared.sink.Sink.{Ghosts as Sink}
use Rattle.rl_log.specs.Causes.{IsCaused}
use Rattle.rl_log.specs.declared.status.Status.{Status}
use Rattle.rl_log.specs.declared.status.Status.TheVariants.{Memory}
use Rattle.rl_play.specs.Leaves.{Leaves}
use Rattle.rl_play.proofs.LeavesLemmas.{leaves_none, leaves_written}
use Rattle.rl_session_run.specs.Stays.{Stays}
use Rattle.rl_session_run.proofs.StaysLemmas.{stays_same}

module _ {K : Type 0} (sink : Sink K) where
  pub opened_leaves : (a b : ℕ) (old new : K) → a ≤ b → Stays sink.faults sink.ends sink.target old new → Leaves sink a b old new None
  opened_leaves a b old new later s =
      record { source_later = later; sink_later = s.later; ends_kept = s.ends_kept; same_target = s.same_target; cause = tt }

  pub ended_leaves : (a b : ℕ) (old new : K) (status : Status) → a ≤ b → IsCaused status a b (sink.faults old) (sink.faults new)
      → Stays sink.faults sink.ends sink.target old new → Leaves sink a b old new (Some status)
  ended_leaves a b old new status later cause s =
      record { source_later = later; sink_later = s.later; ends_kept = s.ends_kept; same_target = s.same_target; cause = cause }

  -- it met no source
  pub unread_leaves : (n : ℕ) (old new : K) (status : Status) → IsCaused status 0 0 (sink.faults old) (sink.faults new)
      → Stays sink.faults sink.ends sink.target old new → Leaves sink n n old new (Some status)
  unread_leaves n old new status cause s =
      leaves_written sink n n old old new None (Some status) (leaves_none sink n old) (ended_leaves 0 0 old new status (omega arith) cause s)

  -- memory ran out before anything was done
  pub memory_leaves : (n : ℕ) (k : K) → Leaves sink n n k k (Some Memory)
  memory_leaves n k =
      let cause : IsCaused Memory n n (sink.faults k) (sink.faults k) =
      record { source_fault = λ e. absurd (cc); sink_fault = λ e. absurd (cc); known = λ e. cc } in
      ended_leaves n n k k Memory (omega arith) cause (stays_same sink.faults sink.ends sink.target k k refl)
