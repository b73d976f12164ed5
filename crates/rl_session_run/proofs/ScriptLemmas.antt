-- What a session does on a device that tells nothing, part by part.
use Rattle.std.proofs.Common.{◌≡◌, ◌≢◌, ℕ, true, false, List, [], Result, Ok, Err, Some, None, IfSome, refl, sym, ap, subst, ◌∙◌, inl, inr}
use Rattle.std.specs.Prelude.{unwrap_or}
use Rattle.std.specs.declared.option.Option.{Option}
use Rattle.std.specs.Io.KnownBytes.{Keeps}
use Rattle.rl_access.specs.Call.{scene}
use Rattle.rl_access.specs.Model.{ModelData}
use Rattle.rl_bus.specs.Account.{Account}
use Rattle.rl_bus.specs.Standing.{Standing}
use Rattle.rl_bus.specs.State.{State}
use Rattle.rl_desc.specs.Data.{DescData}
use Rattle.rl_report.specs.Lines.{lines_of, whole_lines}
use Rattle.rl_report.specs.Opening.{TakesNoHead, separator_at}
use Rattle.rl_report.specs.Reading.{Reading, input_of}
use Rattle.rl_log.specs.declared.counts.Counts.{Counts}
use Rattle.rl_log.specs.declared.status.Status.{Status}
use Rattle.rl_log.specs.declared.status.Status.TheVariants.{Refused, SinkFault, SourceFault}
use Rattle.rl_log.specs.Recording.{no_counts}
use Rattle.rl_log.specs.Statuses.{is_complete}
use Rattle.rl_log.specs.Telling.{Tells}
use Rattle.rl_play.specs.AnyDevice.{Point, Plays, PlaysOnAnyDevice, RunsTaken}
use Rattle.rl_log.specs.Earlier.{KeepsEarlier}
use Rattle.rl_play.proofs.AnyLemmas.{plays_cut, plays_written, written_on}
use Rattle.rl_play.proofs.AskedLemmas.{lines_asked}
use Rattle.std.proofs.KnownBytes.{Appends-kept, Keeps-refl, Keeps-trans}
use Rattle.std.proofs.lemmas.Bool.{cases_Bool}
use Rattle.rl_log.proofs.TellingLemmas.{not_sink_fault}
use Rattle.rl_play.proofs.EndingLemmas.{append_none}
use Rattle.rl_play.proofs.FaultLemmas.{same_status}
use Rattle.rl_session.specs.Judged.{first_world}
use Rattle.rl_session.specs.Session.{behind, script_of}
use Rattle.rl_session_run.specs.Opening.{OpensAs}
use Rattle.rl_session_run.specs.Script.{first_point, whole_script, IsUnreached, PlaysLines, PlaysRest, RunsSession}
use Rattle.rl_session_run.specs.Telling.{Stops}
use Rattle.rl_session_run.proofs.TakenLemmas.{none_run, script_run}

-- ---- a script

lines_played : (desc : DescData) (lines whole : List ℕ → List (List ℕ)) (bytes : List ℕ) (left : Option (List ℕ)) (status : Status)
    (old : Option (List ℕ)) (adapters : List Standing) (account : Account) (last : Point)
    (p : Plays 1 (first_point desc adapters account old) (lines bytes) last status)
    → (status ≡ SourceFault → RunsTaken whole bytes left p.done p.close)
    → PlaysLines desc lines whole bytes left status old last.text adapters last.scene.adapters account last.scene.account
lines_played desc lines whole bytes left status old adapters account last p fault = record {
  last = last;
  plays = p;
  text_is = refl;
  adapters_are = refl;
  account_is = refl;
  asked = lines_asked 1 (first_point desc adapters account old).scene (lines bytes) p.done p.close last.scene p.happens;
  at_fault = fault;
}

-- nothing was played
pub rest_cut : (desc : DescData) (input left : Option (List ℕ)) (status : Status) (old : Option (List ℕ)) (adapters : List Standing) (account : Account)
    → is_complete status ≡ false → status ≢ SourceFault → PlaysRest desc input left status old old adapters adapters account account
rest_cut desc None left status old adapters account broken other = tt
rest_cut desc (Some bytes) left status old adapters account broken other =
    let first = first_point desc adapters account old in
    lines_played desc lines_of whole_lines bytes left status old adapters account first
    (plays_cut 1 first old (Some bytes) status status refl broken (Keeps-refl old)) (λ is. absurd (other is))

abbrev point_of : ModelData → List Standing → Account → Option State → (text : Option (List ℕ)) → Counts → Point
point_of m adapters account state text counts = record { scene = scene m adapters account state; text = text; counts = counts }

first_is : (desc : DescData) (m : ModelData) (account : Account) (state : Option State) (adapters : List Standing) (text : Option (List ℕ))
    → m ≡ (first_world desc adapters).model → state ≡ None
    → point_of m adapters account state text no_counts ≡ first_point desc adapters account text
first_is desc m account state adapters text model silent =
    ap (λ m. point_of m adapters account state text no_counts) model
    ∙ ap (λ s. point_of (first_world desc adapters).model adapters account s text no_counts) silent

pub plays_rest : (desc : DescData) (input left : Option (List ℕ)) (status : Status) (m : ModelData) (account : Account) (state : Option State)
    (counts : Counts) (adapters : List Standing) (old : Option (List ℕ)) (after : Point)
    → m ≡ (first_world desc adapters).model → state ≡ None
    → PlaysOnAnyDevice (point_of m adapters account state old counts) input left after status
    → PlaysRest desc input left status old after.text adapters after.scene.adapters account after.scene.account
plays_rest desc None left status m account state counts adapters old after model silent p = tt
plays_rest desc (Some bytes) left status m account state counts adapters old after model silent p =
    let last = record after { counts = p.own } in
    let all = subst (λ b. (p : Plays 1 b (lines_of bytes) last status) × (status ≡ SourceFault → RunsTaken whole_lines bytes left p.done p.close))
    (first_is desc m account state adapters old model silent) (p.plays, p.at_fault) in
    lines_played desc lines_of whole_lines bytes left status old adapters account last all.0 all.1

-- ---- a session

-- nothing was played of a session
session_cut : (desc : DescData) (bytes : List ℕ) (left : Option (List ℕ)) (status : Status) (old new : Option (List ℕ)) (adapters : List Standing)
    (account : Account) → is_complete status ≡ false → Keeps old new → (status ≡ SourceFault → TakesNoHead bytes left)
    → PlaysLines desc script_of whole_script bytes left status old new adapters adapters account account
unfolding plays_cut
session_cut desc bytes left status old new adapters account broken kept none =
    let first = first_point desc adapters account old in
    lines_played desc script_of whole_script bytes left status old adapters account (record first { text = new })
    (plays_cut 1 first new (Some (behind (separator_at bytes) bytes)) status status refl broken kept)
    (λ is. none_run bytes left (none is))

runs_by : (opening : Result DescData (List ℕ)) (bytes : List ℕ) (left : Option (List ℕ)) (status : Status) (old new : Option (List ℕ))
    (adapters : List Standing) (first : DescData → Account) → Stops opening status old new → (status ≡ SourceFault → TakesNoHead bytes left)
    → RunsSession opening bytes left status old new adapters adapters first None
runs_by opening bytes left status old new adapters first s none = record {
  refused = λ line e. subst (λ o. Stops o status old new) e s;
  untouched = λ line e. refl;
  played = λ desc e.
      let cut = subst (λ o. Stops o status old new) e s in
      session_cut desc bytes left status old new adapters (first desc) cut.0 cut.1 none;
  unreached = λ desc e made.
      let cut = subst (λ o. Stops o status old new) e s in
      record { broken = cut.0; unwritten = cut.1; untouched = refl };
}

pub runs_stopped : (input left : Option (List ℕ)) (opening : List ℕ → Result DescData (List ℕ)) (status : Status) (old new : Option (List ℕ))
    (adapters : List Standing) (first : DescData → Account) → IfSome input (λ bytes. Stops (opening bytes) status old new)
    → (status ≡ SourceFault → IfSome input (λ bytes. TakesNoHead bytes left))
    → IfSome input (λ bytes. RunsSession (opening bytes) bytes left status old new adapters adapters first None)
runs_stopped None left opening status old new adapters first s none = tt
runs_stopped (Some bytes) left opening status old new adapters first s none =
    runs_by (opening bytes) bytes left status old new adapters first s none

ok-err : {X E : Type 0} {x : X} {e : E} (r : Result X E) → r ≡ Ok x → r ≡ Err e → ⊥
ok-err r a b = cc

same_ok : {X E : Type 0} {x y : X} (r : Result X E) → r ≡ Ok x → r ≡ Ok y → x ≡ y
same_ok r a b = cc

-- the lines behind the separator are those of the session
session_lines : (desc : DescData) (bytes : List ℕ) (left : Option (List ℕ)) (status : Status) (old new : Option (List ℕ)) (adapters now : List Standing)
    (first account : Account)
    → PlaysLines desc lines_of whole_lines (behind (separator_at bytes) bytes) left status old new adapters now first account
    → PlaysLines desc script_of whole_script bytes left status old new adapters now first account
session_lines desc bytes left status old new adapters now first account p = record {
  last = p.last;
  plays = p.plays;
  text_is = p.text_is;
  adapters_are = p.adapters_are;
  account_is = p.account_is;
  asked = p.asked;
  at_fault = λ is. script_run bytes left p.plays.done p.plays.close (p.at_fault is);
}

runs_after : {K : Type 0} (opening : Result DescData (List ℕ)) (written : K → Option (List ℕ)) (bytes : List ℕ) (desc : DescData)
    (lines : Reading) (reached left : Option (List ℕ)) (status : Status) (old mid new : K) (adapters now : List Standing) (first : DescData → Account) (account : Option Account)
    → OpensAs opening bytes desc lines reached → mid ≡ old
    → PlaysRest desc (input_of lines reached) left status (written mid) (written new) adapters now (first desc) (unwrap_or account (first desc))
    → (account ≡ None → IsUnreached status (written mid) (written new) adapters now)
    → RunsSession opening bytes left status (written old) (written new) adapters now first account
runs_after opening written bytes desc lines reached left status old mid new adapters now first account opens same p none =
    let n = unwrap_or account (first desc) in
    let rest : PlaysRest desc (Some (behind (separator_at bytes) bytes)) left status (written mid) (written new) adapters now (first desc) n =
    subst (λ i. PlaysRest desc i left status (written mid) (written new) adapters now (first desc) n) opens.rest p in
    let script = session_lines desc bytes left status (written mid) (written new) adapters now (first desc) n rest in
    let here : PlaysLines desc script_of whole_script bytes left status (written old) (written new) adapters now (first desc) n =
    subst (λ k. PlaysLines desc script_of whole_script bytes left status (written k) (written new) adapters now (first desc) n) same script in
    record {
      refused = λ line e. absurd (ok-err opening opens.opening e);
      untouched = λ line e. absurd (ok-err opening opens.opening e);
      played = λ d e. subst (λ d. PlaysLines d script_of whole_script bytes left status (written old) (written new) adapters now (first d) (unwrap_or account (first d)))
          (same_ok opening opens.opening e) here;
      unreached = λ d e is. subst (λ k. IsUnreached status (written k) (written new) adapters now) same (none is);
    }

runs_behind : {K : Type 0} (written : K → Option (List ℕ)) (input : Option (List ℕ)) (opening : List ℕ → Result DescData (List ℕ))
    (desc : DescData) (lines : Reading) (reached left : Option (List ℕ)) (status : Status) (old mid new : K) (adapters now : List Standing) (first : DescData → Account) (account : Option Account)
    → IfSome input (λ bytes. OpensAs (opening bytes) bytes desc lines reached) → mid ≡ old
    → PlaysRest desc (input_of lines reached) left status (written mid) (written new) adapters now (first desc) (unwrap_or account (first desc))
    → (account ≡ None → IsUnreached status (written mid) (written new) adapters now)
    → IfSome input (λ bytes. RunsSession (opening bytes) bytes left status (written old) (written new) adapters now first account)
runs_behind written None opening desc lines reached left status old mid new adapters now first account opens same p none = tt
runs_behind written (Some bytes) opening desc lines reached left status old mid new adapters now first account opens same p none =
    runs_after (opening bytes) written bytes desc lines reached left status old mid new adapters now first account opens same p none

-- its script was played on a device that was made for it
pub runs_played : {K : Type 0} (written : K → Option (List ℕ)) (input : Option (List ℕ)) (opening : List ℕ → Result DescData (List ℕ))
    (desc : DescData) (lines : Reading) (reached left : Option (List ℕ)) (status : Status) (old mid new : K) (adapters now : List Standing)
    (first : DescData → Account) (begun account : Account)
    → IfSome input (λ bytes. OpensAs (opening bytes) bytes desc lines reached) → mid ≡ old → begun ≡ first desc
    → PlaysRest desc (input_of lines reached) left status (written mid) (written new) adapters now begun account
    → IfSome input (λ bytes. RunsSession (opening bytes) bytes left status (written old) (written new) adapters now first (Some account))
runs_played written input opening desc lines reached left status old mid new adapters now first begun account opens same is p =
    runs_behind written input opening desc lines reached left status old mid new adapters now first (Some account) opens same
    (subst (λ a. PlaysRest desc (input_of lines reached) left status (written mid) (written new) adapters now a account) is p) (λ none. absurd (cc))

-- it had no device
pub runs_unmade : {K : Type 0} (written : K → Option (List ℕ)) (input : Option (List ℕ)) (opening : List ℕ → Result DescData (List ℕ))
    (desc : DescData) (lines : Reading) (left : Option (List ℕ)) (status : Status) (old mid : K) (adapters : List Standing) (first : DescData → Account)
    → IfSome input (λ bytes. OpensAs (opening bytes) bytes desc lines left) → mid ≡ old → is_complete status ≡ false → status ≢ SourceFault
    → IfSome input (λ bytes. RunsSession (opening bytes) bytes left status (written old) (written mid) adapters adapters first None)
runs_unmade written input opening desc lines left status old mid adapters first opens same broken other =
    runs_behind written input opening desc lines left left status old mid mid adapters adapters first None opens same
    (rest_cut desc (input_of lines left) left status (written mid) adapters (first desc) broken other)
    (λ none. record { broken = broken; unwritten = Keeps-refl (written mid); untouched = refl })

-- what holds holds where the session is refused
pub unsent : (input : Option (List ℕ)) (opening : List ℕ → Result DescData (List ℕ)) (P : Type 0) → P
    → IfSome input (λ bytes. (line : List ℕ) → opening bytes ≡ Err line → P)
unsent None opening P h = tt
unsent (Some bytes) opening P h = λ line e. h

-- and so does what it comes to
pub unsent_then : (input : Option (List ℕ)) (opening : List ℕ → Result DescData (List ℕ)) (P Q : Type 0) → (P → Q)
    → IfSome input (λ bytes. (line : List ℕ) → opening bytes ≡ Err line → P)
    → IfSome input (λ bytes. (line : List ℕ) → opening bytes ≡ Err line → Q)
unsent_then None opening P Q f h = tt
unsent_then (Some bytes) opening P Q f h = λ line e. f (h line e)

-- and of one that opened anything is said where it is refused
pub never_refused : (input : Option (List ℕ)) (opening : List ℕ → Result DescData (List ℕ)) (desc : DescData) (lines : Reading)
    (left : Option (List ℕ)) (P : Type 0) → IfSome input (λ bytes. OpensAs (opening bytes) bytes desc lines left)
    → IfSome input (λ bytes. (line : List ℕ) → opening bytes ≡ Err line → P)
never_refused None opening desc lines left P opens = tt
never_refused (Some bytes) opening desc lines left P opens = λ line e. absurd (ok-err (opening bytes) opens.opening e)

-- ---- the end of the log

tells_finished : (status result : Status) (old mid new : Option (List ℕ)) (text : List ℕ) → (result ≢ SinkFault → result ≡ status)
    → Keeps mid new → Tells status Refused old mid text → Tells result Refused old new text
tells_finished status result old mid new text same kept t = record {
  whole = λ c. let is : result ≡ status = same (not_sink_fault result c) in
      let w = t.whole (subst (λ s. is_complete s ≡ true) is c) in
      (is ∙ w.0, Appends-kept old mid new text w.1 kept);
  part = record {
    front = t.part.front;
    rest = t.part.rest;
    split = t.part.split;
    appended = Appends-kept old mid new t.part.front t.part.appended kept;
  };
}

plays_finished : (desc : DescData) (bytes : List ℕ) (left : Option (List ℕ)) (status result : Status) (old mid new : Option (List ℕ)) (adapters now : List Standing)
    (first account : Account) → (result ≢ SinkFault → result ≡ status) → KeepsEarlier old new → Keeps mid new
    → PlaysLines desc script_of whole_script bytes left status old mid adapters now first account
    → PlaysLines desc script_of whole_script bytes left result old new adapters now first account
unfolding plays_written written_on
plays_finished desc bytes left status result old mid new adapters now first account same earlier kept p =
    let held : Keeps p.last.text new = subst (λ t. Keeps t new) (sym p.text_is) kept in
    let all = plays_written 1 (first_point desc adapters first old) (Some (behind (separator_at bytes) bytes)) p.last new [] status result same earlier
    (subst (Keeps p.last.text) (sym (append_none new)) held) (λ c. held) (λ f. held) p.plays in
    record {
      last = record p.last { text = new };
      plays = all;
      text_is = refl;
      adapters_are = p.adapters_are;
      account_is = p.account_is;
      asked = p.asked;
      at_fault = λ is. p.at_fault (same_status status result same is);
    }

still_broken : (status result : Status) → (result ≢ SinkFault → result ≡ status) → is_complete status ≡ false → is_complete result ≡ false
still_broken status result same broken = elim (cases_Bool (is_complete result)) [
  | inl whole ↦
      let no : true ≡ false = sym whole ∙ ap is_complete (same (not_sink_fault result whole)) ∙ broken in
      absurd (cc)
  | inr broken ↦ broken
]

unreached_finished : (status result : Status) (old mid new : Option (List ℕ)) (adapters now : List Standing)
    → (result ≢ SinkFault → result ≡ status) → Keeps mid new → IsUnreached status old mid adapters now → IsUnreached result old new adapters now
unreached_finished status result old mid new adapters now same kept u = record {
  broken = still_broken status result same u.broken;
  unwritten = Keeps-trans old mid new u.unwritten kept;
  untouched = u.untouched;
}

runs_ended : (opening : Result DescData (List ℕ)) (bytes : List ℕ) (left : Option (List ℕ)) (status result : Status) (old mid new : Option (List ℕ))
    (adapters now : List Standing) (first : DescData → Account) (account : Option Account) → (result ≢ SinkFault → result ≡ status) → KeepsEarlier old new → Keeps mid new
    → RunsSession opening bytes left status old mid adapters now first account → RunsSession opening bytes left result old new adapters now first account
runs_ended opening bytes left status result old mid new adapters now first account same earlier kept r = record {
  refused = λ line e. tells_finished status result old mid new line same kept (r.refused line e);
  untouched = r.untouched;
  played = λ desc e. plays_finished desc bytes left status result old mid new adapters now (first desc) (unwrap_or account (first desc)) same earlier kept
      (r.played desc e);
  unreached = λ desc e none. unreached_finished status result old mid new adapters now same kept (r.unreached desc e none);
}

pub runs_finished : (input left : Option (List ℕ)) (opening : List ℕ → Result DescData (List ℕ)) (status result : Status)
    (old mid new : Option (List ℕ)) (adapters now : List Standing) (first : DescData → Account) (account : Option Account) → (result ≢ SinkFault → result ≡ status)
    → KeepsEarlier old new → Keeps mid new → IfSome input (λ bytes. RunsSession (opening bytes) bytes left status old mid adapters now first account)
    → IfSome input (λ bytes. RunsSession (opening bytes) bytes left result old new adapters now first account)
runs_finished None left opening status result old mid new adapters now first account same earlier kept r = tt
runs_finished (Some bytes) left opening status result old mid new adapters now first account same earlier kept r =
    runs_ended (opening bytes) bytes left status result old mid new adapters now first account same earlier kept r
