-- What was told of a session for whose description a plan is made.
use Rattle.std.proofs.Common.{◌≡◌, ◌≢◌, ◌==◌, ℕ, ◌≤◌, Bool, true, false, if◌then◌else◌, List, [], ◌∷◌, length, Result, Ok, Err, Some, None, IfSome, refl, sym, ◌∙◌, subst, arith}
use Rattle.std.specs.declared.option.Option.{Option}
use Rattle.std.specs.Io.KnownBytes.{Keeps}
use Rattle.std.proofs.lemmas.Bool.{eqb-true}
use Rattle.rl_bus.specs.Causes.{HasCause}
use Rattle.rl_bus.specs.declared.op.AdapterKind.{AdapterKind}
use Rattle.rl_flaw.specs.declared.flaw.Flaw.{Flaw}
use Rattle.rl_desc.specs.Data.{DescData}
use Rattle.rl_report.specs.declared.sink.Sink.{Ghosts as Sink}
use Rattle.rl_report.specs.Pieces.{Puts}
use Rattle.rl_report.specs.Reading.{Reading}
use Rattle.rl_log.specs.declared.status.Status.{Status}
use Rattle.rl_log.specs.declared.status.Status.TheVariants.{Passed, SinkFault, SourceFault}
use Rattle.rl_log.specs.Causes.{IsCaused}
use Rattle.rl_log.specs.Telling.{Tells}
use Rattle.rl_log.specs.Earlier.{KeepsEarlier}
use Rattle.rl_log.specs.Statuses.{is_complete}
use Rattle.rl_log.proofs.TellingLemmas.{tells_all, tells_front, tells_none, tells_written}
use Rattle.rl_play.proofs.EndingLemmas.{append_none}
use Rattle.rl_session.specs.Session.{opening_of}
use Rattle.rl_session_run.specs.Opening.{OpensAs}
use Rattle.rl_session_run.specs.Stays.{LeavesOpen, StaysOpen}
use Rattle.rl_session_run.specs.Telling.{Stops}
use Rattle.rl_plan.specs.declared.asked.Asked.{Asked}
use Rattle.rl_plan.specs.Opening.{flaws_text, unflawed}
use Rattle.rl_plan.specs.Run.{Planned, TellsPlan, model_of, opened_planned, planned_of, status_of}
use Rattle.rl_plan.specs.Text.{plan_text}

stopped : (asked : Asked) (opening : Result DescData (List ℕ)) (status : Status) (old new : Option (List ℕ))
    → Stops opening status old new → TellsPlan (opened_planned asked opening) status old new
stopped asked (Ok d) status old new s = tells_none status Passed old new (plan_text (model_of d) asked) s.0 s.1
stopped asked (Err line) status old new s = s

pub session_stopped : (input : Option (List ℕ)) (asked : Asked) (kinds : List AdapterKind) (status : Status) (old new : Option (List ℕ))
    → IfSome input (λ bytes. Stops (unflawed (opening_of bytes kinds)) status old new)
    → IfSome input (λ bytes. TellsPlan (planned_of asked kinds bytes) status old new)
session_stopped None asked kinds status old new s = tt
session_stopped (Some bytes) asked kinds status old new s = stopped asked (unflawed (opening_of bytes kinds)) status old new s

pub session_planned : {K : Type 0} (written : K → Option (List ℕ)) (input : Option (List ℕ)) (asked : Asked) (kinds : List AdapterKind)
    (desc : DescData) (lines : Reading) (left : Option (List ℕ)) (status : Status) (old mid new : K)
    → IfSome input (λ bytes. OpensAs (unflawed (opening_of bytes kinds)) bytes desc lines left) → mid ≡ old
    → Tells status Passed (written mid) (written new) (plan_text (model_of desc) asked)
    → IfSome input (λ bytes. TellsPlan (planned_of asked kinds bytes) status (written old) (written new))
session_planned written None asked kinds desc lines left status old mid new opens same t = tt
session_planned written (Some bytes) asked kinds desc lines left status old mid new opens same t =
    let planned = subst (λ o. TellsPlan (opened_planned asked o) status (written mid) (written new)) (sym opens.opening) t in
    subst (λ k. TellsPlan (planned_of asked kinds bytes) status (written k) (written new)) same planned

-- what a session is told as, by its bytes
pub session_ended : (input : Option (List ℕ)) (told : List ℕ → Planned) (status result : Status) (old mid new : Option (List ℕ))
    → (result ≢ SinkFault → result ≡ status) → KeepsEarlier old new → Keeps mid new
    → IfSome input (λ bytes. TellsPlan (told bytes) status old mid)
    → IfSome input (λ bytes. TellsPlan (told bytes) result old new)
session_ended None told status result old mid new same earlier kept t = tt
session_ended (Some bytes) told status result old mid new same earlier kept t =
    let p = told bytes in
    tells_written status result p.status old mid new [] p.text same earlier (subst (Keeps mid) (sym (append_none new)) kept) (λ c. kept) t

pub leaves_planned : {K : Type 0} (sink : Sink K) (status : Status) (source source_now : ℕ) (old new : K) → source ≤ source_now
    → IsCaused status 0 0 (sink.faults old) (sink.faults new) → StaysOpen sink.written sink.faults sink.ends old new
    → LeavesOpen sink status source source_now old new
leaves_planned sink status source source_now old new later cause stays =
    record {
      source_later = later;
      cause = record { source_fault = λ e. absurd (omega (arith, cause.source_fault e)); sink_fault = cause.sink_fault; known = cause.known };
      stays = stays;
    }

-- ---- a text that was written, or a front of it

pub text_told : {T E : Type 0} (r : Result T E) (old new : Option (List ℕ)) (text all : List ℕ) → text ≡ all → Puts old new text r
    → Tells (status_of r) Passed old new all
text_told (Ok x) old new text all is p = subst (λ t. Tells Passed Passed old new t) is (tells_all Passed old new text p.whole)
text_told (Err e) old new text all is p = subst (λ t. Tells SinkFault Passed old new t) is (tells_front SinkFault Passed old new text refl p.part)

pub text_caused : {T E : Type 0} (r : Result T E) (sink sink_now : ℕ) → HasCause sink sink_now r → IsCaused (status_of r) 0 0 sink sink_now
text_caused (Ok x) sink sink_now h = record { source_fault = λ e. absurd (cc); sink_fault = λ e. absurd (cc); known = λ e. cc }
text_caused (Err e) sink sink_now h = record { source_fault = λ e. absurd (cc); sink_fault = λ e. h.failed; known = λ e. cc }

pub no_later : (n : ℕ) → n ≤ n
no_later n = omega arith

-- ---- what is no flaw

passes : (d : DescData) (none : Bool) → (if none then Ok d else Err flaws_text) ≡ Ok d → none ≡ true
passes d true is = refl
passes d false is = let no : Err flaws_text ≡ Ok d = is in absurd (cc)

no_flaws : (flaws : List Flaw) → (length flaws == 0) ≡ true → flaws ≡ []
no_flaws [] none = refl
no_flaws (flaw ∷ flaws) none = absurd (omega (arith, eqb-true (length (flaw ∷ flaws)) 0 none))

pub none_flawed : (d : DescData) → unflawed (Ok d) ≡ Ok d → d.flaws ≡ []
none_flawed d is = no_flaws d.flaws (passes d (length d.flaws == 0) is)

-- ---- how a session ended, by how its log ended

pub no_error : {X : Type 0} {r : Result X Status} {x : X} {why : Status} → r ≡ Ok x → r ≢ Err why
no_error is other = cc

-- one that ended whole wasn't stopped for a cause by which none ends so
pub not_stopped : {X : Type 0} {r : Result X Status} (status result why : Status) → is_complete result ≡ true
    → (result ≢ SinkFault → result ≡ status) → r ≡ Err status → is_complete why ≡ false → r ≢ Err why
not_stopped status result why whole same is incomplete other =
    let kept : result ≡ status = same (λ s. let bad : false ≡ true = subst (λ x. is_complete x ≡ true) s whole in cc) in
    let equal : status ≡ why = cc in
    let bad : false ≡ true = sym incomplete ∙ subst (λ x. is_complete x ≡ true) (kept ∙ equal) whole in
    cc

pub fault_kept : (status result : Status) → result ≡ SourceFault → (result ≢ SinkFault → result ≡ status) → status ≡ SourceFault
fault_kept status result is same = sym (same (λ s. cc)) ∙ is
