-- What a session tells that ended before its script.
use Rattle.std.proofs.Common.{◌≡◌, ℕ, true, false, List, Result, Ok, Err, IsErr, IsErrAnd, IfErr, refl, sym, ap, subst, ◌∙◌}
use Rattle.std.specs.declared.option.Option.{Option}
use Rattle.std.specs.Io.KnownBytes.{Keeps}
use Rattle.std.proofs.lemmas.Bool.{true≢false}
use Rattle.rl_bus.specs.Causes.{HasCause}
use Rattle.rl_desc.specs.Data.{DescData}
use Rattle.rl_report.specs.declared.sink.Sink.{Ghosts as Sink}
use Rattle.rl_report.specs.Pieces.{Puts}
use Rattle.rl_log.specs.declared.status.Status.{Status}
use Rattle.rl_log.specs.declared.status.Status.TheVariants.{Refused, SinkFault}
use Rattle.rl_log.specs.Causes.{IsCaused}
use Rattle.rl_log.specs.Statuses.{is_complete}
use Rattle.rl_log.specs.Telling.{Tells}
use Rattle.rl_session.specs.Session.{refusal_of}
use Rattle.rl_log.proofs.TellingLemmas.{tells_all, tells_front, tells_none}
use Rattle.rl_session_run.specs.Telling.{Checks, Stops, refused_status}
use Rattle.rl_session_run.proofs.StaysLemmas.{open_put, open_same}

-- ---- a last line that was written, or not

pub tells_put : {T E : Type 0} (status : Status) (old new : Option (List ℕ)) (text : List ℕ) (r : Result T E)
    → status ≡ refused_status r → Puts old new text r → Tells status Refused old new text
tells_put status old new text (Ok x) is p = subst (λ s. Tells s Refused old new text) (sym is) (tells_all Refused old new text p.whole)
tells_put status old new text (Err e) is p =
    subst (λ s. Tells s Refused old new text) (sym is) (tells_front SinkFault Refused old new text refl p.part)

caused_by : {T E : Type 0} (source source_now sink sink_now : ℕ) (r : Result T E) → HasCause sink sink_now r
    → IsCaused (refused_status r) source source_now sink sink_now
caused_by source source_now sink sink_now (Ok x) h =
    record { source_fault = λ e. absurd (cc); sink_fault = λ e. absurd (cc); known = λ e. cc }
caused_by source source_now sink sink_now (Err x) h =
    record { source_fault = λ e. absurd (cc); sink_fault = λ e. h.failed; known = λ e. cc }

pub caused_put : {T E : Type 0} (status : Status) (source source_now sink sink_now : ℕ) (r : Result T E)
    → status ≡ refused_status r → HasCause sink sink_now r → IsCaused status source source_now sink sink_now
caused_put status source source_now sink sink_now r is h =
    subst (λ s. IsCaused s source source_now sink sink_now) (sym is) (caused_by source source_now sink sink_now r h)

-- ---- a session that ended before its script

pub stops_early : {X : Type 0} (opening : Result X (List ℕ)) (status : Status) (old new : Option (List ℕ)) → is_complete status ≡ false
    → Keeps old new → Stops opening status old new
stops_early (Ok x) status old new broken h = (broken, h)
stops_early (Err line) status old new broken h = tells_none status Refused old new line broken h

pub stops_with : {X : Type 0} (opening : Result X (List ℕ)) (line : List ℕ) (status : Status) (old new : Option (List ℕ))
    → opening ≡ Err line → Tells status Refused old new line → Stops opening status old new
stops_with opening line status old new e t = subst (λ o. Stops o status old new) (sym e) t

-- it came to its last line only where it is refused
pub stops_refused : (opening : Result DescData (List ℕ)) (status : Status) (old new : Option (List ℕ)) → is_complete status ≡ true
    → Stops opening status old new → opening ≡ Err (refusal_of opening)
stops_refused (Ok desc) status old new whole s = absurd (true≢false (sym whole ∙ s.0))
stops_refused (Err line) status old new whole s = refl

-- what is said of its status is said of the status that `?` hands on
pub handed_on : {T : Type 0} (r : Result T Status) (status : Status) (P : Status → Type 0) → IsErr r × IsErrAnd r (λ s. s ≡ status) → P status
    → IfErr r P
handed_on (Ok x) status P h p = tt
handed_on (Err s) status P h p = subst P (sym h.1) p

pub handed_err : {T : Type 0} (r : Result T Status) (status : Status) → IsErr r × IsErrAnd r (λ s. s ≡ status) → r ≡ Err status
handed_err (Ok x) status h = let no : false ≡ true = h.0 in absurd (cc)
handed_err (Err s) status h = ap Err h.1

one_error : {T : Type 0} {a b : Status} → (let r : Result T Status = Err a in r ≡ Err b) → a ≡ b
one_error e = cc

-- it is the status that was handed on
pub handed_is : {T : Type 0} (r : Result T Status) (status s : Status) → IsErr r × IsErrAnd r (λ x. x ≡ status) → r ≡ Err s → status ≡ s
handed_is r status s h is = one_error (sym (handed_err r status h) ∙ is)

-- ---- a check of a description

module _ {K : Type 0} (sink : Sink K) (over : Result DescData (List ℕ) → Result DescData (List ℕ)) (desc : DescData) where
  pub check_passes : {T : Type 0} (x : T) (k : K) → over (Ok desc) ≡ Ok desc → Checks sink over desc (Ok x) k k
  check_passes x k is =
      record { allowed = is; unwritten = refl; stops = tt; cause = tt; stays = open_same sink.written sink.faults sink.ends k k refl }

  pub check_refuses : {X T E : Type 0} (line : List ℕ) (status : Status) (r : Result T E) (old new : K) → over (Ok desc) ≡ Err line
      → status ≡ refused_status r → Puts (sink.written old) (sink.written new) line r → HasCause (sink.faults old) (sink.faults new) r
      → sink.ends new ≡ sink.ends old → Checks {T = X} sink over desc (Err status) old new
  check_refuses line status r old new is answer p cause kept = record {
    allowed = tt;
    unwritten = tt;
    stops = stops_with (over (Ok desc)) line status (sink.written old) (sink.written new) is
        (tells_put status (sink.written old) (sink.written new) line r answer p);
    cause = caused_put status 0 0 (sink.faults old) (sink.faults new) r answer cause;
    stays = open_put sink.written sink.faults sink.ends old new line r p cause kept;
  }
