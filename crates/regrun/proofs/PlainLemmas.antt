-- A session on a device that does as described writes, without the lines of items, the plain machine's log.
use Rattle.std.proofs.Common.{◌≡◌, ◌≢◌, ℕ, true, List, Option, Some, None, IfSome, subst}
use Rattle.std.specs.Io.KnownBytes.{Keeps}
use Rattle.rl_bus.specs.Standing.{Standing, kinds_of}
use Rattle.rl_log.specs.declared.status.Status.{Status}
use Rattle.rl_log.specs.declared.status.Status.TheVariants.{SinkFault}
use Rattle.rl_session.specs.Judged.{judged}
use Rattle.rl_session_run.specs.Output.{IsJudged}
use Rattle.rl_session_run.specs.Telling.{Stops}
use Rattle.rl_session_run.proofs.StopLemmas.{stops_refused}
use Rattle.rl_session.specs.Session.{opening_of, refusal_of}
use Rattle.rl_session_laws.specs.PlainLog.{IsSteadyOpening, IsPlainLog, WritesPlainLog}
use Rattle.rl_log.specs.Statuses.{is_complete}
use Rattle.std.proofs.KnownBytes.{Appends-kept}
use Rattle.rl_log.proofs.TellingLemmas.{not_sink_fault}
use Rattle.rl_session_laws.proofs.PlainSession.{log_of_refused}

-- ---- of what was read

pub plain_stopped : (left : Option (List ℕ)) (adapters : List Standing) (status : Status) (old new : Option (List ℕ)) → is_complete status ≡ true
    → IfSome left (λ bytes. Stops (opening_of bytes (kinds_of adapters)) status old new) → IfSome left (λ bytes. IsPlainLog bytes adapters)
plain_stopped None adapters status old new whole h = tt
plain_stopped (Some bytes) adapters status old new whole h =
    let opening = opening_of bytes (kinds_of adapters) in
    log_of_refused bytes adapters (refusal_of opening) (stops_refused opening status old new whole h)

-- the status of a run that came to its last line, before it was written out
pub same_complete : (status result : Status) → (result ≢ SinkFault → result ≡ status) → is_complete result ≡ true → is_complete status ≡ true
same_complete status result same whole = subst (λ s. is_complete s ≡ true) (same (not_sink_fault result whole)) whole

pub plain_written : (left : Option (List ℕ)) (adapters now : List Standing) (status : Status) (old new : Option (List ℕ)) → is_complete status ≡ true
    → IfSome left (λ bytes. IsJudged (judged bytes adapters) status old new now) → IfSome left (λ bytes. IsPlainLog bytes adapters)
    → IfSome left (λ bytes. IsSteadyOpening (opening_of bytes (kinds_of adapters)) → WritesPlainLog bytes (kinds_of adapters) old new)
plain_written None adapters now status old new whole ran log = tt
plain_written (Some bytes) adapters now status old new whole ran log = λ steady. record {
  text = (judged bytes adapters).text;
  written = (ran.tells.whole whole).1;
  same = log.same steady;
}

-- what was told is written out
pub plain_later : (left : Option (List ℕ)) (adapters : List Standing) (old told new : Option (List ℕ)) → Keeps told new
    → IfSome left (λ bytes. IsSteadyOpening (opening_of bytes (kinds_of adapters)) → WritesPlainLog bytes (kinds_of adapters) old told)
    → IfSome left (λ bytes. IsSteadyOpening (opening_of bytes (kinds_of adapters)) → WritesPlainLog bytes (kinds_of adapters) old new)
plain_later None adapters old told new keeps h = tt
plain_later (Some bytes) adapters old told new keeps h = λ steady.
    let w = h steady in
    record { text = w.text; written = Appends-kept old told new w.text w.written keeps; same = w.same }
