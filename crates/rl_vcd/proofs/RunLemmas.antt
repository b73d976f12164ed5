-- A session that was run and drawn, part by part.
use Rattle.std.proofs.Common.{◌≡◌, ◌≢◌, ℕ, true, false, List, [], ◌∷◌, ◌++◌, Option, Some, None, IfSome, Result, Ok, Err, refl, sym, ap, subst, ◌∙◌, inl, inr, append-nil}
use Rattle.std.specs.Io.KnownBytes.{Appends, Keeps, append_known}
use Rattle.std.proofs.KnownBytes.{Keeps-refl}
use Rattle.rl_access.specs.Call.{scene}
use Rattle.rl_access.specs.Model.{ModelData}
use Rattle.rl_access.specs.World.{IsAt}
use Rattle.rl_bus.specs.Account.{Account, without_peer}
use Rattle.rl_bus.specs.Standing.{Standing}
use Rattle.rl_bus.specs.State.{State}
use Rattle.rl_bus.specs.declared.op.AdapterKind.{AdapterKind}
use Rattle.rl_desc.specs.Data.{DescData}
use Rattle.rl_log.specs.Earlier.{KeepsEarlier}
use Rattle.rl_log.specs.Recording.{no_counts}
use Rattle.rl_log.specs.Statuses.{is_complete}
use Rattle.rl_log.specs.declared.counts.Counts.{Counts}
use Rattle.rl_log.specs.declared.status.Status.{Status}
use Rattle.rl_log.specs.declared.status.Status.TheVariants.{Memory, Refused, SinkFault, SourceFault}
use Rattle.rl_log.proofs.KnownLemmas.{front_none, front_written}
use Rattle.rl_log.proofs.TellingLemmas.{tells_written}
use Rattle.rl_play.specs.AnyDevice.{Point, cut, told_by}
use Rattle.rl_play.specs.Leaves.{Leaves}
use Rattle.rl_play.specs.Played.{LinesBreak}
use Rattle.rl_play.proofs.AnyLemmas.{written_on}
use Rattle.rl_play.proofs.FaultLemmas.{same_status}
use Rattle.rl_report.specs.Lines.{lines_of, whole_lines}
use Rattle.rl_report.specs.Opening.{TakesNoHead, separator_at}
use Rattle.rl_report.specs.Reading.{Reading, input_of}
use Rattle.rl_report.specs.declared.sink.Sink.{Ghosts as Sink}
use Rattle.rl_report.specs.declared.source.Source.{Ghosts as Source}
use Rattle.rl_session.specs.Judged.{first_world, script_judged}
use Rattle.rl_session.specs.Session.{behind, opening_of, script_of}
use Rattle.rl_session_run.specs.Opening.{OpensAs, OpensWith}
use Rattle.rl_session_run.specs.Output.{IsJudged, run_lines}
use Rattle.rl_session_run.specs.Running.{RunsScript}
use Rattle.rl_session_run.specs.Script.{whole_script}
use Rattle.rl_session_run.specs.Telling.{Stops}
use Rattle.rl_session_run.proofs.RunLemmas.{runs_memory}
use Rattle.rl_session_run.proofs.TakenLemmas.{none_run, script_run}
use Rattle.rl_vcd.specs.declared.dump.Dump.{Dump}
use Rattle.rl_vcd.specs.declared.dump.Fault.{Fault}
use Rattle.rl_vcd.specs.Lines.{DrawsInput, DrawsLines}
use Rattle.rl_vcd.specs.Noted.{Closes}
use Rattle.rl_vcd.specs.Session.{DrawsFrom, DrawsRest, DrawsScriptOf, DrawsSession, HasBegun, first_point}
use Rattle.rl_vcd.proofs.NotedLemmas.{begun, ended_all, noted_all}
use Rattle.rl_vcd.proofs.ScriptLemmas.{draws_cut}

-- ---- from the first state

abbrev point_of : ModelData → List Standing → (account : Account) → State → (text : Option (List ℕ)) → Counts → Point
point_of m adapters account state text counts =
    record { scene = scene m adapters account (Some state); text = text; counts = counts }

some_is : {A : Type 0} {x y : A} → Some x ≡ Some y → x ≡ y
some_is e = cc

first_is : (desc : DescData) (m : ModelData) (account : Account) (state : State) (adapters : List Standing) (text : Option (List ℕ))
    (counts : Counts) → counts ≡ no_counts → IsAt m adapters (Some state) (first_world desc adapters)
    → point_of m adapters account state text counts ≡ first_point desc adapters account text
first_is desc m account state adapters text counts none here =
    ap (λ c. point_of m adapters account state text c) none
    ∙ ap (λ m. point_of m adapters account state text no_counts) here.model_is
    ∙ ap (λ s. point_of (first_world desc adapters).model adapters account s text no_counts) (some_is here.device_is)

-- ---- what a session opens with

pub opens_script : (input : Option (List ℕ)) (kinds : List AdapterKind) (desc : DescData) (lines : Reading) (left : Option (List ℕ))
    → IfSome input (λ bytes. OpensWith bytes kinds desc lines left)
    → IfSome input (λ bytes. OpensAs (opening_of bytes kinds) bytes desc lines left)
opens_script None kinds desc lines left h = tt
opens_script (Some bytes) kinds desc lines left h = record { opening = h.opening; rest = h.reads.rest }

-- ---- the log of its script

-- with the status that it is answered by
pub script_ran : {S L : Type 0} (source : Source S) (log : Sink L) (is_out : L → Type 0) (desc : DescData) (lines : Reading)
    (before after : S) (old new : L) (adapters now : List Standing) (status result : Status) → result ≡ status
    → IfSome (input_of lines (source.left before)) (λ bytes.
    IsJudged (script_judged desc bytes adapters) status (log.written old) (log.written new) now)
    → (status ≡ SourceFault → IfSome (input_of lines (source.left before)) (λ bytes.
    LinesBreak (run_lines desc adapters) bytes (source.left after) (log.written old) (log.written new)))
    → (status ≡ SourceFault → (lines.ended ≡ false) × is_out new)
    → Leaves log (source.faults before) (source.faults after) old new (Some status)
    → RunsScript source log is_out (script_judged desc) (run_lines desc) lines before after old new adapters now result
script_ran source log is_out desc lines before after old new adapters now status result same tells at_fault unended leaves =
    subst (RunsScript source log is_out (script_judged desc) (run_lines desc) lines before after old new adapters now) (sym same)
    (record { tells = tells; at_fault = at_fault; unended = unended; leaves = leaves })

-- it wasn't run, since memory ran out
pub script_unrun : {S L : Type 0} (source : Source S) (log : Sink L) (is_out : L → Type 0) (desc : DescData) (lines : Reading)
    (s : S) (k : L) (adapters : List Standing) (result : Status) → result ≡ Memory
    → RunsScript source log is_out (script_judged desc) (run_lines desc) lines s s k k adapters adapters result
script_unrun source log is_out desc lines s k adapters result same =
    subst (RunsScript source log is_out (script_judged desc) (run_lines desc) lines s s k k adapters adapters) (sym same)
    (runs_memory source log is_out (script_judged desc) (run_lines desc) lines s k adapters)

-- ---- what was kept in the end

kept_of : (old new : Option (List ℕ)) (front rest : List ℕ) → front ++ rest ≡ [] → Appends old new front → Keeps old new
kept_of None new front rest split h = tt
kept_of (Some xs) None front rest split h = absurd h
kept_of (Some xs) (Some ys) [] rest split h = h ∙ append-nil xs
kept_of (Some xs) (Some ys) (b ∷ front) rest split h = absurd (cc)

-- nothing was told, and the log has the bytes that it had before
kept_on : (old told new : Option (List ℕ)) (kept : List ℕ) → KeepsEarlier old new → Keeps told (append_known new kept)
    → Keeps old told → Keeps old new
kept_on old told new kept keeps held h =
    let f = front_written old told new kept [] keeps held (front_none old told [] h) in
    kept_of old new f.front f.rest f.split f.appended

module _ {K : Type 0} (sink : Sink K) where
  -- ---- a script

  from_lines : (desc : DescData) (bytes : List ℕ) (left : Option (List ℕ)) (status result : Status) (account : Account) (p last : Point)
      (old : Option (List ℕ)) (adapters : List Standing) (d new : Dump K) (fault : Option Fault) (now : K) → result ≡ status
      → p ≡ first_point desc adapters account old → HasBegun desc.layout d → Closes sink new fault now
      → DrawsLines sink 1 p bytes left last status d new
      → DrawsFrom sink desc lines_of whole_lines bytes left old last.text adapters d.sink result fault now
  from_lines desc bytes left status result account p last old adapters d new fault now same here b closed drawn =
      let first = subst (λ p. DrawsLines sink 1 p bytes left last status d new) here drawn in
      let all : DrawsLines sink 1 (first_point desc adapters account old) bytes left last result d new =
      subst (λ s. DrawsLines sink 1 (first_point desc adapters account old) bytes left last s d new) (sym same) first in
      let events = told_by all.plays.done all.plays.close in
      record {
        account = account;
        last = last;
        plays = all.plays;
        text_is = refl;
        dump = ended_all sink desc.layout d.sink events new fault now closed
            (noted_all sink desc.layout d.sink events [] d new all.drawn (begun sink desc.layout d b.text b.first b.sound));
        at_fault = all.at_fault;
      }

  -- the lines that are left were run and drawn
  rest_drawn : (desc : DescData) (input left : Option (List ℕ)) (status result : Status) (m : ModelData) (account : Account) (state : State)
      (counts : Counts) (adapters : List Standing) (old : Option (List ℕ)) (after : Point) (before : K) (d new : Dump K) (fault : Option Fault)
      (now : K) → d.sink ≡ before → counts ≡ no_counts → IsAt m adapters (Some state) (first_world desc adapters) → result ≡ status
      → HasBegun desc.layout d → Closes sink new fault now
      → DrawsInput sink 1 (point_of m adapters account state old counts) input left after status d new
      → DrawsRest sink desc input left old after.text adapters before result fault now
  rest_drawn desc None left status result m account state counts adapters old after before d new fault now from none here same b closed drawn = tt
  rest_drawn desc (Some bytes) left status result m account state counts adapters old after before d new fault now from none here same b closed drawn =
      subst (λ k. DrawsScriptOf sink desc lines_of whole_lines bytes left old after.text adapters k result fault now) from
      (inr (from_lines desc bytes left status result account (point_of m adapters account state old counts) after old adapters
      d new fault now same (first_is desc m account state adapters old counts none here) b closed drawn))

  -- its dump was ended as it came out of the session
  pub rest_drawn_behind : (desc : DescData) (input left : Option (List ℕ)) (status result : Status) (m : ModelData) (account : Account)
      (state : State) (counts : Counts) (adapters : List Standing) (old : Option (List ℕ)) (after : Point) (before : K) (d new end : Dump K)
      (fault : Option Fault) (now : K) → end ≡ new → d.sink ≡ before → counts ≡ no_counts
      → IsAt m adapters (Some state) (first_world desc adapters) → result ≡ status → HasBegun desc.layout d → Closes sink end fault now
      → DrawsInput sink 1 (point_of m adapters account state old counts) input left after status d new
      → DrawsRest sink desc input left old after.text adapters before result fault now
  rest_drawn_behind desc input left status result m account state counts adapters old after before d new end fault now is from none here same b closed drawn =
      rest_drawn desc input left status result m account state counts adapters old after before d new fault now from none here same b
      (subst (λ d. Closes sink d fault now) is closed) drawn

  -- memory ran out before the first of them
  pub rest_cut : (desc : DescData) (input left : Option (List ℕ)) (status : Status) (adapters : List Standing) (old : Option (List ℕ))
      (before : K) (d : Dump K) (fault : Option Fault) (now : K) → d.sink ≡ before → status ≡ Memory → HasBegun desc.layout d
      → Closes sink d fault now → DrawsRest sink desc input left old old adapters before status fault now
  rest_cut desc None left status adapters old before d fault now from out b closed = tt
  rest_cut desc (Some bytes) left status adapters old before d fault now from out b closed =
      let p = first_point desc adapters (without_peer 0) old in
      subst (λ k. DrawsScriptOf sink desc lines_of whole_lines bytes left old old adapters k status fault now) from
      (inr (from_lines desc bytes left Memory status (without_peer 0) p p old adapters d d fault now out refl b closed
      (draws_cut sink 1 p old (Some bytes) left Memory Memory d refl refl (Keeps-refl old) (λ is. absurd (cc)))))

  -- and before its dump
  pub rest_unreached : (desc : DescData) (input left : Option (List ℕ)) (adapters : List Standing) (old : Option (List ℕ))
      (before now : K) → now ≡ before → DrawsRest sink desc input left old old adapters before Memory None now
  rest_unreached desc None left adapters old before now same = tt
  rest_unreached desc (Some bytes) left adapters old before now same = inl (record {
    broken = refl;
    unwritten = Keeps-refl old;
    undrawn = record { sound = refl; untouched = same };
    at_fault = λ is. absurd (cc);
  })

  -- ---- a session

  ok-err : {X E : Type 0} {x : X} {e : E} (r : Result X E) → r ≡ Ok x → r ≡ Err e → ⊥
  ok-err r a b = cc

  same_ok : {X E : Type 0} {x y : X} (r : Result X E) → r ≡ Ok x → r ≡ Ok y → x ≡ y
  same_ok r a b = cc

  abbrev DrawsAs : Result DescData (List ℕ) → List ℕ → (left old new : Option (List ℕ)) → List Standing → (before : K) → Status
      → Option Fault → (now : K) → Type 0
  DrawsAs opening bytes left old new adapters before status fault now =
      DrawsSession sink opening bytes left old new adapters before status fault now

  -- it ended before its script
  stopped_as : (opening : Result DescData (List ℕ)) (bytes : List ℕ) (left : Option (List ℕ)) (status : Status) (old new : Option (List ℕ))
      (adapters : List Standing) (vcd : K) → Stops opening status old new → (status ≡ SourceFault → TakesNoHead bytes left)
      → DrawsAs opening bytes left old new adapters vcd status None vcd
  stopped_as opening bytes left status old new adapters vcd s none = record {
    refused = λ line e. (subst (λ o. Stops o status old new) e s, record { sound = refl; untouched = refl });
    drawn = λ desc e. let cut = subst (λ o. Stops o status old new) e s in inl (record {
      broken = cut.0;
      unwritten = cut.1;
      undrawn = record { sound = refl; untouched = refl };
      at_fault = λ is. none_run bytes left (none is);
    });
  }

  pub session_stopped : (input left : Option (List ℕ)) (opening : List ℕ → Result DescData (List ℕ)) (status : Status)
      (old new : Option (List ℕ)) (adapters : List Standing) (vcd : K) → IfSome input (λ bytes. Stops (opening bytes) status old new)
      → (status ≡ SourceFault → IfSome input (λ bytes. TakesNoHead bytes left))
      → IfSome input (λ bytes. DrawsAs (opening bytes) bytes left old new adapters vcd status None vcd)
  session_stopped None left opening status old new adapters vcd s none = tt
  session_stopped (Some bytes) left opening status old new adapters vcd s none =
      stopped_as (opening bytes) bytes left status old new adapters vcd s none

  -- the lines behind the separator are those of the session
  session_lines : (desc : DescData) (bytes : List ℕ) (left old new : Option (List ℕ)) (adapters : List Standing) (before : K)
      (status : Status) (fault : Option Fault) (now : K)
      → DrawsScriptOf sink desc lines_of whole_lines (behind (separator_at bytes) bytes) left old new adapters before status fault now
      → DrawsScriptOf sink desc script_of whole_script bytes left old new adapters before status fault now
  session_lines desc bytes left old new adapters before status fault now (inl u) = inl (record {
    broken = u.broken;
    unwritten = u.unwritten;
    undrawn = u.undrawn;
    at_fault = λ is. script_run bytes left [] cut (u.at_fault is);
  })
  session_lines desc bytes left old new adapters before status fault now (inr d) = inr (record {
    account = d.account;
    last = d.last;
    plays = d.plays;
    text_is = d.text_is;
    dump = d.dump;
    at_fault = λ is. script_run bytes left d.plays.done d.plays.close (d.at_fault is);
  })

  -- its script was run
  opened_as : {L : Type 0} (written : L → Option (List ℕ)) (opening : Result DescData (List ℕ)) (bytes : List ℕ) (desc : DescData)
      (lines : Reading) (reached left : Option (List ℕ)) (status : Status) (old mid new : L) (adapters : List Standing) (vcd : K)
      (fault : Option Fault) (now : K) → OpensAs opening bytes desc lines reached → mid ≡ old
      → DrawsRest sink desc (input_of lines reached) left (written mid) (written new) adapters vcd status fault now
      → DrawsAs opening bytes left (written old) (written new) adapters vcd status fault now
  opened_as written opening bytes desc lines reached left status old mid new adapters vcd fault now opens same rest =
      let script = session_lines desc bytes left (written mid) (written new) adapters vcd status fault now
      (subst (λ i. DrawsRest sink desc i left (written mid) (written new) adapters vcd status fault now) opens.rest rest) in
      let here : DrawsScriptOf sink desc script_of whole_script bytes left (written old) (written new) adapters vcd status fault now =
      subst (λ k. DrawsScriptOf sink desc script_of whole_script bytes left (written k) (written new) adapters vcd status fault now) same script in
      record {
        refused = λ line e. absurd (ok-err opening opens.opening e);
        drawn = λ d e. subst (λ d. DrawsScriptOf sink d script_of whole_script bytes left (written old) (written new) adapters vcd status fault now)
            (same_ok opening opens.opening e) here;
      }

  pub session_opened : {L : Type 0} (written : L → Option (List ℕ)) (input : Option (List ℕ)) (opening : List ℕ → Result DescData (List ℕ))
      (desc : DescData) (lines : Reading) (reached left : Option (List ℕ)) (status : Status) (old mid new : L) (adapters : List Standing)
      (vcd : K) (fault : Option Fault) (now : K) → IfSome input (λ bytes. OpensAs (opening bytes) bytes desc lines reached) → mid ≡ old
      → DrawsRest sink desc (input_of lines reached) left (written mid) (written new) adapters vcd status fault now
      → IfSome input (λ bytes. DrawsAs (opening bytes) bytes left (written old) (written new) adapters vcd status fault now)
  session_opened written None opening desc lines reached left status old mid new adapters vcd fault now opens same rest = tt
  session_opened written (Some bytes) opening desc lines reached left status old mid new adapters vcd fault now opens same rest =
      opened_as written (opening bytes) bytes desc lines reached left status old mid new adapters vcd fault now opens same rest

  -- ---- what is written in the end

  module _ (status result : Status) (left old told new : Option (List ℕ)) (kept : List ℕ) (adapters : List Standing) (before : K)
      (fault : Option Fault) (now : K) (same : result ≢ SinkFault → result ≡ status) (given_up : is_complete status ≡ false → result ≡ status)
      (keeps : KeepsEarlier old new) (held : Keeps told (append_known new kept)) (whole : is_complete result ≡ true → Keeps told new)
      (at_fault : status ≡ SourceFault → Keeps told new) where
    script_written : (desc : DescData) (bytes : List ℕ) → DrawsFrom sink desc script_of whole_script bytes left old told adapters before status fault now
        → DrawsFrom sink desc script_of whole_script bytes left old new adapters before result fault now
    unfolding written_on
    script_written desc bytes d = record {
      account = d.account;
      last = record d.last { text = new };
      plays = written_on 1 (first_point desc adapters d.account old) (script_of bytes) d.last new kept status result same keeps
          (subst (λ t. Keeps t (append_known new kept)) (sym d.text_is) held)
          (λ c. subst (λ t. Keeps t new) (sym d.text_is) (whole c))
          (λ f. subst (λ t. Keeps t new) (sym d.text_is) (at_fault (same_status status result same f))) d.plays;
      text_is = refl;
      dump = d.dump;
      at_fault = λ f. d.at_fault (same_status status result same f);
    }

    of_script_written : (desc : DescData) (bytes : List ℕ)
        → DrawsScriptOf sink desc script_of whole_script bytes left old told adapters before status fault now
        → DrawsScriptOf sink desc script_of whole_script bytes left old new adapters before result fault now
    of_script_written desc bytes (inl u) = inl (record {
      broken = ap is_complete (given_up u.broken) ∙ u.broken;
      unwritten = kept_on old told new kept keeps held u.unwritten;
      undrawn = u.undrawn;
      at_fault = λ f. u.at_fault (same_status status result same f);
    })
    of_script_written desc bytes (inr d) = inr (script_written desc bytes d)

    written_as : (opening : Result DescData (List ℕ)) (bytes : List ℕ)
        → DrawsAs opening bytes left old told adapters before status fault now
        → DrawsAs opening bytes left old new adapters before result fault now
    written_as opening bytes d = record {
      refused = λ line e. let r = d.refused line e in
          (tells_written status result Refused old told new kept line same keeps held whole r.0, r.1);
      drawn = λ desc e. of_script_written desc bytes (d.drawn desc e);
    }

    pub session_written : (input : Option (List ℕ)) (opening : List ℕ → Result DescData (List ℕ))
        → IfSome input (λ bytes. DrawsAs (opening bytes) bytes left old told adapters before status fault now)
        → IfSome input (λ bytes. DrawsAs (opening bytes) bytes left old new adapters before result fault now)
    session_written None opening d = tt
    session_written (Some bytes) opening d = written_as (opening bytes) bytes d
