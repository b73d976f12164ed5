-- A session's dump, against its log.
use Rattle.std.specs.Prelude.{◌≡◌, ◌⊎◌, ℕ, List, [], false, Option, Some, None, IfSome, Result, Ok, Err}
use Rattle.std.specs.Io.KnownBytes.{Keeps}
use Rattle.rl_access.specs.Call.{scene}
use Rattle.rl_bus.specs.Account.{Account}
use Rattle.rl_bus.specs.Standing.{Standing}
use Rattle.rl_desc.specs.Data.{DescData}
use Rattle.rl_log.specs.Recording.{no_counts}
use Rattle.rl_log.specs.Statuses.{is_complete}
use Rattle.rl_log.specs.Telling.{Tells}
use Rattle.rl_log.specs.declared.status.Status.{Status}
use Rattle.rl_log.specs.declared.status.Status.TheVariants.{Refused, SourceFault}
use Rattle.rl_map.specs.Layout.{LayoutData}
use Rattle.rl_play.specs.AnyDevice.{Plays, Point, RunsTaken, cut, told_by}
use Rattle.rl_report.specs.Lines.{lines_of, whole_lines}
use Rattle.rl_report.specs.declared.sink.Sink.{Ghosts as Sink}
use Rattle.rl_session.specs.Judged.{first_world}
use Rattle.rl_session.specs.Session.{script_of}
use Rattle.rl_session_run.specs.Script.{whole_script}
use Rattle.rl_vcd.specs.Dump.{header_text}
use Rattle.rl_vcd.specs.Items.{buses_of}
use Rattle.rl_vcd.specs.Noted.{IsDumpOf}
use Rattle.rl_vcd.specs.declared.dump.Dump.{Dump}
use Rattle.rl_vcd.specs.declared.dump.Fault.{Fault}

-- a dump with no event yet
pub record HasBegun {K : Type 0} (l : LayoutData) (d : Dump K) : Type 0 where
  pub text : d.wave.text.items ≡ header_text (buses_of l)
  pub first : d.wave.cycle ≡ 1
  pub sound : d.fault ≡ None

-- before its first line: a model and a device model that were just built, which have failed so often
abbrev pub first_point : DescData → List Standing → (account : Account) → (text : Option (List ℕ)) → Point
first_point desc adapters account text =
    let w = first_world desc adapters in
    record { scene = scene w.model adapters account (Some w.device); text = text; counts = no_counts }

-- ---- a script

-- The lines of some bytes, of which the source has this left, were played from there on, and drawn: the log went from
-- `old` to `new`, and the dump from `before` to `now`. `lines` are those of all bytes, and `whole` those that end among
-- some.
pub record DrawsFrom {K : Type 0} (sink : Sink K) (desc : DescData) (lines whole : List ℕ → List (List ℕ))
    (bytes : List ℕ) (left old new : Option (List ℕ))
    (adapters : List Standing) (before : K) (status : Status) (fault : Option Fault) (now : K) : Type 0 where
  pub account : Account
  pub last : Point
  -- What was written is the text of events, each of which performs its line's operation from where the one before
  -- ended. After a log that failed, and where memory ran out, it is a front of that.
  pub plays : Plays 1 (first_point desc adapters account old) (lines bytes) last status
  pub text_is : last.text ≡ new
  -- The dump is that of exactly these events.
  pub dump : IsDumpOf sink before desc.layout (told_by plays.done plays.close) fault now
  -- After a source that failed these are exactly the events of the lines that were taken whole.
  pub at_fault : status ≡ SourceFault → RunsTaken whole bytes left plays.done plays.close

-- nothing was drawn
pub record IsUndrawn {K : Type 0} (before : K) (fault : Option Fault) (now : K) : Type 0 where
  pub sound : fault ≡ None
  pub untouched : now ≡ before

-- It ended before its script, by a fault: nothing was written, and nothing was drawn.
pub record IsUnreached {K : Type 0} (whole : List ℕ → List (List ℕ)) (bytes : List ℕ) (left old new : Option (List ℕ))
    (before : K) (status : Status) (fault : Option Fault) (now : K) : Type 0 where
  pub broken : is_complete status ≡ false
  pub unwritten : Keeps old new
  pub undrawn : IsUndrawn before fault now
  -- Where the source failed, no line of the script was taken whole.
  pub at_fault : status ≡ SourceFault → RunsTaken whole bytes left [] cut

-- it came to its script or not
abbrev pub DrawsScriptOf : {K : Type 0} → Sink K → DescData → (lines whole : List ℕ → List (List ℕ)) → (bytes : List ℕ)
    → (left old new : Option (List ℕ))
    → (adapters : List Standing) → (before : K) → Status → Option Fault → (now : K) → Type 0
DrawsScriptOf sink desc lines whole bytes left old new adapters before status fault now =
    IsUnreached whole bytes left old new before status fault now
    ⊎ DrawsFrom sink desc lines whole bytes left old new adapters before status fault now

-- the lines of an input, where the source tells its bytes
abbrev pub DrawsRest : {K : Type 0} → Sink K → DescData → (input left : Option (List ℕ)) → (old new : Option (List ℕ))
    → (adapters : List Standing) → (before : K) → Status → Option Fault → (now : K) → Type 0
DrawsRest sink desc input left old new adapters before status fault now = IfSome input (λ bytes.
    DrawsScriptOf sink desc lines_of whole_lines bytes left old new adapters before status fault now)

-- ---- a session

-- From what a session opens with, its bytes and what its source has left of them to its status, its log and its dump.
pub record DrawsSession {K : Type 0} (sink : Sink K) (opening : Result DescData (List ℕ)) (bytes : List ℕ)
    (left old new : Option (List ℕ)) (adapters : List Standing) (before : K) (status : Status) (fault : Option Fault)
    (now : K) : Type 0 where
  -- Where it is refused before its script, exactly the line that says so is written, the status is `Refused`, and
  -- nothing is drawn. After any fault, and where memory ran out, a front of that line was written.
  pub refused : (line : List ℕ) → opening ≡ Err line → Tells status Refused old new line × IsUndrawn before fault now
  -- Where it isn't, its script is played and drawn, unless a fault ended it before.
  pub drawn : (desc : DescData) → opening ≡ Ok desc
      → DrawsScriptOf sink desc script_of whole_script bytes left old new adapters before status fault now
