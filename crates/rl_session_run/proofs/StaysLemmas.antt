-- What stays of a log.
use Rattle.std.proofs.Common.{◌≡◌, ◌≢◌, ℕ, ◌≤◌, true, false, List, [], length, drop, Result, Ok, Err, Some, None, refl, sym, ap, ◌∙◌, subst, arith}
use Rattle.std.proofs.lemmas.List.{take_all}
use Rattle.std.specs.declared.option.Option.{Option}
use Rattle.std.specs.Io.KnownBytes.{Keeps}
use Rattle.rl_bus.specs.Causes.{HasCause, Rose}
use Rattle.rl_report.specs.Ends.{EndedOnce}
use Rattle.rl_report.specs.declared.sink.Sink.{Ghosts as Sink}
use Rattle.rl_report.specs.Pieces.{Puts}
use Rattle.rl_log.specs.declared.status.Status.{Status}
use Rattle.rl_log.specs.declared.status.Status.TheVariants.{Passed, Found, Refused, SourceFault, SinkFault, Memory, Words}
use Rattle.rl_log.specs.Causes.{IsCaused}
use Rattle.rl_log.specs.Earlier.{KeepsEarlier}
use Rattle.rl_log.specs.Statuses.{is_complete}
use Rattle.std.proofs.KnownBytes.{Keeps-refl}
use Rattle.rl_log.proofs.KnownLemmas.{begins_with, earlier_grown, keeps_nothing}
use Rattle.rl_session_run.specs.Stays.{LeavesEnded, LeavesOpen, Stays, StaysOpen}

-- ---- earlier bytes

pub earlier_same : (a : Option (List ℕ)) → KeepsEarlier a a
earlier_same None = tt
earlier_same (Some xs) = ap Some (take_all (length xs) xs (omega arith))

pub earlier_then : (a b c : Option (List ℕ)) → KeepsEarlier a b → KeepsEarlier b c → KeepsEarlier a c
earlier_then None b c h k = tt
earlier_then (Some xs) None c h k = absurd (cc)
earlier_then (Some xs) (Some ys) None h k = absurd (cc)
earlier_then (Some xs) (Some ys) (Some zs) h k =
    earlier_grown (Some xs) (Some ys) (Some zs) (drop (length ys) zs) h (begins_with ys zs k)

pub earlier_kept : (a b c : Option (List ℕ)) → KeepsEarlier a b → Keeps b c → KeepsEarlier a c
earlier_kept a b c h k = earlier_grown a b c [] h (keeps_nothing b c k)

pub earlier_put : {T E : Type 0} (a b : Option (List ℕ)) (text : List ℕ) (r : Result T E) → Puts a b text r → KeepsEarlier a b
earlier_put a b text (Ok x) p = earlier_grown a a b text (earlier_same a) p.whole
earlier_put a b text (Err e) p = earlier_grown a a b p.part.front (earlier_same a) p.part.appended

-- ---- a log that is as before

-- it keeps its text
pub keeps_same : {K : Type 0} (written : K → Option (List ℕ)) (old new : K) → new ≡ old → Keeps (written old) (written new)
keeps_same written old new same = subst (Keeps (written old)) (ap written (sym same)) (Keeps-refl (written old))

-- and keeps nothing back
pub still_out : {K : Type 0} (is_out : K → Type 0) (old new : K) → new ≡ old → is_out old → is_out new
still_out is_out old new same h = subst is_out (sym same) h

pub earlier_unwritten : {K : Type 0} (written : K → Option (List ℕ)) (old new : K) → new ≡ old → KeepsEarlier (written old) (written new)
earlier_unwritten written old new same = subst (λ k. KeepsEarlier (written old) (written k)) (sym same) (earlier_same (written old))

-- ---- one part after another

pub stays_same : {K : Type 0} (faults ends target : K → ℕ) (old new : K) → new ≡ old → Stays faults ends target old new
stays_same faults ends target old new same =
    record { later = omega (arith, ap faults same); ends_kept = ap ends same; same_target = ap target same }

pub stays_then : {K : Type 0} (faults ends target : K → ℕ) (old mid new : K) → Stays faults ends target old mid
    → Stays faults ends target mid new → Stays faults ends target old new
stays_then faults ends target old mid new a b = record {
  later = omega (arith, a.later, b.later);
  ends_kept = b.ends_kept ∙ a.ends_kept;
  same_target = b.same_target ∙ a.same_target;
}

pub open_same : {K : Type 0} (written : K → Option (List ℕ)) (faults ends : K → ℕ) (old new : K) → new ≡ old
    → StaysOpen written faults ends old new
open_same written faults ends old new same = record {
  earlier = earlier_unwritten written old new same;
  later = omega (arith, ap faults same);
  ends_kept = ap ends same;
}

pub open_then : {K : Type 0} (written : K → Option (List ℕ)) (faults ends : K → ℕ) (old mid new : K)
    → StaysOpen written faults ends old mid → StaysOpen written faults ends mid new → StaysOpen written faults ends old new
open_then written faults ends old mid new a b = record {
  earlier = earlier_then (written old) (written mid) (written new) a.earlier b.earlier;
  later = omega (arith, a.later, b.later);
  ends_kept = b.ends_kept ∙ a.ends_kept;
}

pub stays_open : {K : Type 0} (written : K → Option (List ℕ)) (faults ends target : K → ℕ) (old new : K)
    → KeepsEarlier (written old) (written new) → Stays faults ends target old new → StaysOpen written faults ends old new
stays_open written faults ends target old new earlier s =
    record { earlier = earlier; later = s.later; ends_kept = s.ends_kept }

pub open_put : {K T E : Type 0} (written : K → Option (List ℕ)) (faults ends : K → ℕ) (old new : K) (text : List ℕ) (r : Result T E)
    → Puts (written old) (written new) text r → HasCause (faults old) (faults new) r → ends new ≡ ends old
    → StaysOpen written faults ends old new
open_put written faults ends old new text r p cause kept =
    record { earlier = earlier_put (written old) (written new) text r p; later = cause.later; ends_kept = kept }

-- ---- a session whose log isn't ended

cause_on : (status : Status) (a b c old mid new : ℕ) → a ≤ b → old ≤ mid → IsCaused status b c mid new → IsCaused status a c old new
cause_on status a b c old mid new first second h = record {
  source_fault = λ e. omega (arith, h.source_fault e);
  sink_fault = λ e. omega (arith, h.sink_fault e);
  known = h.known;
}

cause_behind : (status : Status) (a b old mid new : ℕ) → old ≤ mid → IsCaused status 0 0 mid new → IsCaused status a b old new
cause_behind status a b old mid new later h = record {
  source_fault = λ e. absurd (omega (arith, h.source_fault e));
  sink_fault = λ e. omega (arith, h.sink_fault e);
  known = h.known;
}

ended_by : (status result : Status) (sink mid now : ℕ) → sink ≤ mid → mid ≤ now → (status ≡ SinkFault → Rose sink mid)
    → (status ≢ SinkFault → Rose mid now) → Rose sink now
ended_by Passed result sink mid now first second was rose = omega (arith, rose (λ e. absurd (cc)))
ended_by Found result sink mid now first second was rose = omega (arith, rose (λ e. absurd (cc)))
ended_by Refused result sink mid now first second was rose = omega (arith, rose (λ e. absurd (cc)))
ended_by SourceFault result sink mid now first second was rose = omega (arith, rose (λ e. absurd (cc)))
ended_by SinkFault result sink mid now first second was rose = omega (arith, was refl)
ended_by Memory result sink mid now first second was rose = omega (arith, rose (λ e. absurd (cc)))
ended_by Words result sink mid now first second was rose = omega (arith, rose (λ e. absurd (cc)))

ended_cause : (status result : Status) (a b old mid new : ℕ) → old ≤ mid → mid ≤ new → (result ≢ SinkFault → result ≡ status)
    → IsCaused status a b old mid → (result ≡ SinkFault → status ≢ SinkFault → Rose mid new) → IsCaused result a b old new
ended_cause status result a b old mid new first second same h rose = record {
  source_fault = λ e. h.source_fault (sym (same (λ f. let no : SourceFault ≡ SinkFault = sym e ∙ f in absurd (cc))) ∙ e);
  sink_fault = λ e. ended_by status result old mid new first second h.sink_fault (rose e);
  known = λ e. h.known (sym (same (λ f. let no : Words ≡ SinkFault = sym e ∙ f in absurd (cc))) ∙ e);
}

module _ {K : Type 0} (sink : Sink K) where
  -- memory ran out before anything was done
  pub open_memory : (n : ℕ) (k : K) → LeavesOpen sink Memory n n k k
  open_memory n k = record {
    source_later = omega arith;
    cause = record { source_fault = λ e. absurd (cc); sink_fault = λ e. absurd (cc); known = λ e. cc };
    stays = open_same sink.written sink.faults sink.ends k k refl;
  }

  -- it ended at its head
  pub open_stopped : (status : Status) (a b : ℕ) (old new : K) → a ≤ b → IsCaused status a b (sink.faults old) (sink.faults new)
      → KeepsEarlier (sink.written old) (sink.written new) → Stays sink.faults sink.ends sink.target old new → LeavesOpen sink status a b old new
  open_stopped status a b old new later cause earlier s =
      record { source_later = later; cause = cause; stays = stays_open sink.written sink.faults sink.ends sink.target old new earlier s }

  -- it ended behind its head, without its source
  pub open_refused : (status : Status) (a b : ℕ) (old mid new : K) → a ≤ b → KeepsEarlier (sink.written old) (sink.written mid)
      → Stays sink.faults sink.ends sink.target old mid → IsCaused status 0 0 (sink.faults mid) (sink.faults new)
      → StaysOpen sink.written sink.faults sink.ends mid new → LeavesOpen sink status a b old new
  open_refused status a b old mid new later earlier s cause then = record {
    source_later = later;
    cause = cause_behind status a b (sink.faults old) (sink.faults mid) (sink.faults new) s.later cause;
    stays = open_then sink.written sink.faults sink.ends old mid new (stays_open sink.written sink.faults sink.ends sink.target old mid earlier s) then;
  }

  -- its script was played behind its head
  pub open_behind : (status : Status) (a b c : ℕ) (old mid new : K) → a ≤ b → mid ≡ old → LeavesOpen sink status b c mid new
      → LeavesOpen sink status a c old new
  open_behind status a b c old mid new later same then =
      let behind : LeavesOpen sink status b c old new = subst (λ k. LeavesOpen sink status b c k new) same then in
      record {
        source_later = omega (arith, later, behind.source_later);
        cause = cause_on status a b c (sink.faults old) (sink.faults old) (sink.faults new) later (omega arith) behind.cause;
        stays = behind.stays;
      }

  -- it was given up before its last line
  pub open_given_up : (status : Status) (a b : ℕ) (old new : K) → is_complete status ≡ false → LeavesOpen sink status a b old new
      → LeavesEnded sink status a b old new
  open_given_up status a b old new broken left = record {
    keeps_earlier = left.stays.earlier;
    source_later = left.source_later;
    log_later = left.stays.later;
    cause = left.cause;
    ended = λ e. let no : true ≡ false = sym e ∙ broken in absurd (cc);
    not_ended = λ e. left.stays.ends_kept;
  }

  -- and its log was ended
  pub open_ended : (status result : Status) (a b : ℕ) (old mid new : K) → LeavesOpen sink status a b old mid
      → (result ≢ SinkFault → result ≡ status) → Keeps (sink.written mid) (sink.written new) → sink.faults mid ≤ sink.faults new
      → (result ≡ SinkFault → status ≢ SinkFault → Rose (sink.faults mid) (sink.faults new))
      → (is_complete result ≡ true → EndedOnce (sink.ends mid) (sink.ends new))
      → (is_complete result ≡ false → sink.ends new ≡ sink.ends mid) → LeavesEnded sink result a b old new
  open_ended status result a b old mid new left same kept later rose ended not_ended = record {
    keeps_earlier = earlier_kept (sink.written old) (sink.written mid) (sink.written new) left.stays.earlier kept;
    source_later = left.source_later;
    log_later = omega (arith, left.stays.later, later);
    cause = ended_cause status result a b (sink.faults old) (sink.faults mid) (sink.faults new) left.stays.later later same left.cause rose;
    ended = λ e. subst (λ n. EndedOnce n (sink.ends new)) left.stays.ends_kept (ended e);
    not_ended = λ e. not_ended e ∙ left.stays.ends_kept;
  }

  -- its script was played behind its head, and its log was ended
  pub ended_behind : (status result : Status) (a b c : ℕ) (old mid log new : K) → a ≤ b → mid ≡ old → LeavesOpen sink status b c mid log
      → (result ≢ SinkFault → result ≡ status) → Keeps (sink.written log) (sink.written new) → sink.faults log ≤ sink.faults new
      → (result ≡ SinkFault → status ≢ SinkFault → Rose (sink.faults log) (sink.faults new))
      → (is_complete result ≡ true → EndedOnce (sink.ends log) (sink.ends new))
      → (is_complete result ≡ false → sink.ends new ≡ sink.ends log) → LeavesEnded sink result a c old new
  ended_behind status result a b c old mid log new before unwritten left same kept later rose ended not_ended =
      open_ended status result a c old log new (open_behind status a b c old mid log before unwritten left) same kept later rose ended not_ended

  pub kept_behind : (status : Status) (b c : ℕ) (old mid log new : K) → mid ≡ old → LeavesOpen sink status b c mid log
      → Keeps (sink.written log) (sink.written new) → KeepsEarlier (sink.written old) (sink.written new)
  kept_behind status b c old mid log new unwritten left kept =
      let earlier = subst (λ k. KeepsEarlier (sink.written k) (sink.written log)) unwritten left.stays.earlier in
      earlier_kept (sink.written old) (sink.written log) (sink.written new) earlier kept
