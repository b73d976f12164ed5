-- What calls leave of source and sink, one call after another.
use Rattle.std.proofs.Common.{◌≡◌, ◌≢◌, ◌≤◌, ℕ, true, false, Option, Some, None, IfSome, Result, Err, refl, ap, subst, sym, ◌∙◌, arith}
use Rattle.std.proofs.lemmas.Bool.{true≢false}
use Rattle.rl_log.specs.Causes.{IsCaused}
use Rattle.rl_log.specs.Endings.{IsCounted}
use Rattle.rl_log.specs.Statuses.{is_complete}
use Rattle.rl_log.specs.declared.counts.Counts.{Counts}
use Rattle.rl_log.specs.declared.status.Status.{Status}
use Rattle.rl_log.specs.declared.status.Status.TheVariants.{SourceFault, SinkFault, Memory}
use Rattle.rl_report.specs.declared.sink.Sink.{Ghosts as Sink}
use Rattle.rl_report.specs.Pieces.{SinkStays}
use Rattle.rl_report.specs.Reading.{Reading}
use Rattle.rl_play.specs.declared.playing.Turn.{Turn}
use Rattle.rl_play.specs.declared.playing.Turn.TheVariants.{Next, Stop}
use Rattle.rl_play.specs.Leaves.{CanGoOn, Leaves, LeavesLines, NotByCounts, ReadsOn, stop_of}
use Rattle.rl_play.proofs.EndingLemmas.{counted_other}
use Rattle.rl_play.proofs.FaultLemmas.{still_going}

caused_then : (status : Option Status) (a b c old mid new : ℕ) → a ≤ b → old ≤ mid
    → IfSome status (λ s. IsCaused s b c mid new) → IfSome status (λ s. IsCaused s a c old new)
caused_then None a b c old mid new first second h = tt
caused_then (Some s) a b c old mid new first second h = record {
  source_fault = λ e. omega (arith, h.source_fault e);
  sink_fault = λ e. omega (arith, h.sink_fault e);
  known = h.known;
}

caused_on : (status : Option Status) (a b old mid new : ℕ) → old ≤ mid
    → IfSome status (λ s. IsCaused s 0 0 mid new) → IfSome status (λ s. IsCaused s a b old new)
caused_on None a b old mid new later h = tt
caused_on (Some s) a b old mid new later h = record {
  source_fault = λ e. absurd (omega (arith, h.source_fault e));
  sink_fault = λ e. omega (arith, h.sink_fault e);
  known = h.known;
}

-- ---- a turn

status_of : Turn → Status
status_of Next = SourceFault
status_of (Stop status) = status

-- the statuses of one stop
pub stopped : (a b : Status) → Stop a ≡ Stop b → a ≡ b
unfolding status_of
stopped a b is = ap status_of is

pub stop_is_no_next : (status : Status) → Stop status ≢ Next
stop_is_no_next status is = cc

-- ---- source and sink

module _ {K : Type 0} (sink : Sink K) where
  pub leaves_none : (n : ℕ) (k : K) → Leaves sink n n k k None
  leaves_none n k = record {
    source_later = omega arith;
    sink_later = omega arith;
    ends_kept = refl;
    same_target = refl;
    cause = tt;
  }

  -- the script goes on behind it
  pub leaves_on : (a b c : ℕ) (old mid new : K) (before status : Option Status) → Leaves sink a b old mid before
      → Leaves sink b c mid new status → Leaves sink a c old new status
  leaves_on a b c old mid new before status first then = record {
    source_later = omega (arith, first.source_later, then.source_later);
    sink_later = omega (arith, first.sink_later, then.sink_later);
    ends_kept = then.ends_kept ∙ first.ends_kept;
    same_target = then.same_target ∙ first.same_target;
    cause = caused_then status a b c (sink.faults old) (sink.faults mid) (sink.faults new) first.source_later first.sink_later then.cause;
  }

  -- and the next call meets no source
  pub leaves_written : (a b : ℕ) (old mid new : K) (before status : Option Status) → Leaves sink a b old mid before
      → Leaves sink 0 0 mid new status → Leaves sink a b old new status
  leaves_written a b old mid new before status first then = record {
    source_later = first.source_later;
    sink_later = omega (arith, first.sink_later, then.sink_later);
    ends_kept = then.ends_kept ∙ first.ends_kept;
    same_target = then.same_target ∙ first.same_target;
    cause = caused_on status a b (sink.faults old) (sink.faults mid) (sink.faults new) first.sink_later then.cause;
  }

  -- it didn't end the script
  pub leaves_going : (a b : ℕ) (old new : K) (status : Option Status) → Leaves sink a b old new status
      → Leaves sink a b old new None
  leaves_going a b old new status h = record {
    source_later = h.source_later;
    sink_later = h.sink_later;
    ends_kept = h.ends_kept;
    same_target = h.same_target;
    cause = tt;
  }

  -- a call that went on
  pub leaves_went : {T E : Type 0} (old new : K) (r : Result T E) → SinkStays sink old new r → Leaves sink 0 0 old new None
  leaves_went old new r h = record {
    source_later = omega arith;
    sink_later = h.cause.later;
    ends_kept = h.ends;
    same_target = h.target;
    cause = tt;
  }

  -- a call that failed
  pub leaves_failed : {T E : Type 0} (old new : K) (failed : E) → SinkStays {T = T} sink old new (Err failed)
      → Leaves sink 0 0 old new (Some SinkFault)
  leaves_failed old new failed h = record {
    source_later = omega arith;
    sink_later = h.cause.later;
    ends_kept = h.ends;
    same_target = h.target;
    cause = record { source_fault = λ is. absurd (cc); sink_fault = λ is. h.cause.failed; known = λ is. absurd (cc) };
  }

  -- memory ran out
  pub leaves_unmade : (n : ℕ) (k : K) → Leaves sink n n k k (Some Memory)
  leaves_unmade n k = record {
    source_later = omega arith;
    sink_later = omega arith;
    ends_kept = refl;
    same_target = refl;
    cause = record { source_fault = λ is. absurd (cc); sink_fault = λ is. absurd (cc); known = λ is. absurd (cc) };
  }

-- a source that didn't fail ends no script
pub no_source_turn : (turn : Turn) (old new : ℕ) → IfSome (stop_of turn) (λ s. IsCaused s 0 0 old new) → turn ≢ Stop SourceFault
no_source_turn Next old new h is = cc
no_source_turn (Stop s) old new h is = let fault : s ≡ SourceFault = cc in omega (arith, h.source_fault fault)

-- a status that doesn't go by the counts
pub counted_turn : (turn : Turn) (counts : Counts) → NotByCounts (stop_of turn) → IfSome (stop_of turn) (λ s. IsCounted s counts)
counted_turn Next counts h = tt
counted_turn (Stop s) counts h = counted_other s counts h.0 h.1

pub not_by_counts : (status : Status) → is_complete status ≡ false → NotByCounts (Some status)
not_by_counts status broken =
    (λ e. true≢false (sym (ap is_complete e) ∙ broken), λ e. true≢false (sym (ap is_complete e) ∙ broken))

-- ---- the reader, from before the lines that were read first

reads_behind : (first old new : Reading) (turn : Turn) → (first.ended ≡ true → old.ended ≡ true) → ReadsOn old new turn
    → ReadsOn first new turn
reads_behind first old new turn before h = record { found = h.found; going = h.going; ended = λ e. h.ended (before e) }

goes_on_behind : (first old new : Reading) (is_out : Type 0) → (first.ended ≡ true → old.ended ≡ true)
    → CanGoOn old new is_out → CanGoOn first new is_out
goes_on_behind first old new is_out before h =
    record { unended = still_going first.ended old.ended before h.unended; again = h.again; out = h.out }

-- ---- reader, source and sink

module _ {K : Type 0} (sink : Sink K) where
  -- the script ended before a line was taken
  pub leaves_untaken : (is_out : Type 0) (old new : Reading) (a b : ℕ) (out now : K) (status : Status) → new.found ≡ true
      → (old.ended ≡ true → new.ended ≡ true) → (status ≡ SourceFault → CanGoOn old new is_out)
      → Leaves sink a b out now (Some status) → LeavesLines sink is_out old new a b out now (Stop status)
  leaves_untaken is_out old new a b out now status found ended again left = record {
    reads = record { found = found; going = λ is. absurd (stop_is_no_next status is); ended = ended };
    goes_on = λ is. again (stopped status SourceFault is);
    leaves = left;
  }

  -- what was made of a line that was taken, without the source
  pub leaves_taken : (is_out : Type 0) (old new : Reading) (a b : ℕ) (out mid now : K) (before : Option Status) (turn : Turn)
      → new.found ≡ true → (turn ≡ Next → new.refused ≡ false) → (old.ended ≡ true → new.ended ≡ true)
      → Leaves sink a b out mid before → Leaves sink 0 0 mid now (stop_of turn) → LeavesLines sink is_out old new a b out now turn
  leaves_taken is_out old new a b out mid now before turn found going ended first then = record {
    reads = record { found = found; going = going; ended = ended };
    goes_on = λ is. absurd (no_source_turn turn (sink.faults mid) (sink.faults now) then.cause is);
    leaves = leaves_written sink a b out mid now before (stop_of turn) first then;
  }

  -- the end was met, and the last line was written
  pub leaves_ended : (is_out : Type 0) (old new : Reading) (a b : ℕ) (out mid now : K) (before : Option Status) (status : Status)
      → new.found ≡ true → (old.ended ≡ true → new.ended ≡ true) → Leaves sink a b out mid before
      → Leaves sink 0 0 mid now (Some status) → LeavesLines sink is_out old new a b out now (Stop status)
  leaves_ended is_out old new a b out mid now before status found ended first then =
      leaves_taken is_out old new a b out mid now before (Stop status) found (λ is. absurd (stop_is_no_next status is)) ended first then

  -- behind the lines that were read first
  pub leaves_behind : (is_out : Type 0) (first old new : Reading) (a b c : ℕ) (out mid now : K) (before : Option Status) (turn last : Turn)
      → (first.ended ≡ true → old.ended ≡ true) → Leaves sink a b out mid before → turn ≡ last
      → LeavesLines sink is_out old new b c mid now turn → LeavesLines sink is_out first new a c out now last
  leaves_behind is_out first old new a b c out mid now before turn last ended left is h =
      subst (LeavesLines sink is_out first new a c out now) is (record {
        reads = reads_behind first old new turn ended h.reads;
        goes_on = λ e. goes_on_behind first old new is_out ended (h.goes_on e);
        leaves = leaves_on sink a b c out mid now before (stop_of turn) left h.leaves;
      })

  -- there was no memory for the first step
  pub leaves_memory : (is_out : Type 0) (lines : Reading) (n : ℕ) (k : K) → lines.found ≡ true
      → LeavesLines sink is_out lines lines n n k k (Stop Memory)
  leaves_memory is_out lines n k found = record {
    reads = record { found = found; going = λ is. absurd (stop_is_no_next Memory is); ended = λ e. e };
    goes_on = λ is. absurd (cc);
    leaves = leaves_unmade sink n k;
  }
