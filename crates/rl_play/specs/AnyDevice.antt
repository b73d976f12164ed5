-- What a script does over any device, one that reports its state or one that reports nothing:
-- events, each of which performs its operation from where the one before ended.
use Rattle.std.specs.Prelude.{◌≡◌, ◌⊎◌, ℕ, ◌+◌, List, [], ◌∷◌, ◌++◌, length, true, false, Option, Some, None, IfSome, Result, Ok, Err, OnOk, OnErr, IfOk, MatchResult}
use Rattle.std.specs.Io.KnownBytes.{Appends}
use Rattle.rl_access.specs.declared.event.Tally.{Tally}
use Rattle.rl_access.specs.Asking.{IsAskedBy}
use Rattle.rl_access.specs.Call.{Scene, scene_of}
use Rattle.rl_access.specs.HandsOver.{Told}
use Rattle.rl_access.specs.Model.{ModelData}
use Rattle.rl_access.specs.Runs.{no_tally, counted_all}
use Rattle.rl_bus.specs.declared.device.Failed.{Failed}
use Rattle.rl_bus.specs.Account.{Account}
use Rattle.rl_bus.specs.Standing.{Standing}
use Rattle.rl_bus.specs.State.{State}
use Rattle.rl_report.specs.Lines.{lines_of, whole_lines}
use Rattle.rl_report.specs.Pieces.{AppendsFront}
use Rattle.rl_log.specs.declared.counts.Counts.{Counts}
use Rattle.rl_log.specs.declared.refusal.LineRefusal.{LineRefusal}
use Rattle.rl_log.specs.declared.status.Status.{Status}
use Rattle.rl_log.specs.declared.status.Status.TheVariants as ended
use Rattle.rl_log.specs.Endings.{added, end_status}
use Rattle.rl_log.specs.Log.{said}
use Rattle.rl_log.specs.Recording.{no_counts, with_events, told_text, events_text}
use Rattle.rl_log.specs.Statuses.{is_complete}
use Rattle.rl_log.specs.Texts.{refused_text, end_text}
use Rattle.rl_play.specs.Moment.{Moment, moment}
use Rattle.rl_play.specs.declared.playing.Turn.{Turn}
use Rattle.rl_play.specs.declared.playing.Turn.TheVariants.{Next, Stop}
use Rattle.rl_play.specs.Work.{Work, asked, Does, BreaksOff, text_of, begun_text}

-- ---- a run at one moment, over any device

pub record Point : Type 0 where
  pub scene : Scene
  -- what was written until then, where the sink tells it
  pub text : Option (List ℕ)
  -- what was counted until then
  pub counts : Counts

abbrev pub spot : {A D K : Type 0} → (A → Standing) → (D → Account) → (D → Option State) → (K → Option (List ℕ))
    → ModelData → List A → D → K → Counts → Point
spot standing account state written model adapters device sink counts =
    record { scene = scene_of standing account state model adapters device; text = written sink; counts = counts }

abbrev pub moment_at : Point → Moment
moment_at p = moment p.scene.model p.scene.adapters p.scene.device p.text p.counts

-- each event was written and counted; where the sink failed, it failed at the last of these
pub record Logs {T E : Type 0} (work : Work) (before after : Point) (r : Result T E) : Type 0 where
  pub told : List Told
  pub run : MatchResult r (λ x. Does work before.scene told after.scene)
      (λ e. BreaksOff work before.scene told after.scene)
  pub whole : OnOk r (Appends before.text after.text (events_text told))
  pub part : OnErr r (AppendsFront before.text after.text (events_text told))
  pub counted : after.counts ≡ with_events before.counts told

-- and this is the tally of them
pub record LogsTallied {E : Type 0} (work : Work) (before after : Point) (r : Result Tally E) : Type 0 where
  pub logs : Logs work before after r
  pub tally : IfOk r (λ tally. tally ≡ counted_all no_tally logs.told)

-- the text of each of these events but the last was appended, and a front of the last one's
pub record AppendsToLast (old new : Option (List ℕ)) (told : List Told) : Type 0 where
  pub whole : List Told
  pub last : Told
  pub split : whole ++ last ∷ [] ≡ told
  pub mid : Option (List ℕ)
  pub written : Appends old mid (events_text whole)
  pub cut : AppendsFront mid new (told_text last)

-- Each of these events was written before the next one was performed:
-- where the sink failed, it had the whole text of all but the last of those that were performed.
pub record LogsInTurn {E : Type 0} (work : Work) (before after : Point) (r : Result Tally E) : Type 0 where
  pub tallied : LogsTallied work before after r
  pub in_turn : OnErr r (AppendsToLast before.text after.text tallied.logs.told)

-- ---- a line

-- it was run, written and counted
pub record RanWhole (given : Result Work LineRefusal) (before after : Point) : Type 0 where
  pub work : Work
  pub told : List Told
  pub is : given ≡ Ok work
  pub does : Does work before.scene told after.scene
  pub text : Appends before.text after.text (text_of work told)
  pub counted : after.counts ≡ with_events before.counts told

-- ---- how a script ends behind the lines that were run whole

pub data Close : Type 0 where
  -- with the last line of its log
  at_end : Close
  -- at the line of that number, which is refused
  refused : (number : ℕ) → LineRefusal → Close
  -- within a line, after the first of its events
  broken : Work → List Told → Close
  -- within the text of a line that was done
  unwritten : Work → List Told → Close
  -- with nothing more
  cut : Close

-- at a line of that number, which asks for this
abbrev pub ClosesAt : (number : ℕ) → (given : Result Work LineRefusal) → Scene → Close → Scene → Type 0
ClosesAt number given s at_end new = ⊥
ClosesAt number given s (refused n why) new = (n ≡ number) × (given ≡ Err why) × (new ≡ s)
ClosesAt number given s (broken work told) new =
    (given ≡ Ok work) × (((told ≡ []) × (new ≡ s)) ⊎ BreaksOff work s told new)
ClosesAt number given s (unwritten work told) new = (given ≡ Ok work) × Does work s told new
ClosesAt number given s cut new = new ≡ s

-- behind the last line
abbrev pub ClosesBehind : Scene → Close → Scene → Type 0
ClosesBehind s at_end new = new ≡ s
ClosesBehind s (refused n why) new = ⊥
ClosesBehind s (broken work told) new = ⊥
ClosesBehind s (unwritten work told) new = ⊥
ClosesBehind s cut new = new ≡ s

-- its events, its text, and which status it has
abbrev pub told_at : Close → List Told
told_at at_end = []
told_at (refused n why) = []
told_at (broken work told) = told
told_at (unwritten work told) = told
told_at cut = []

abbrev pub text_at : Counts → Close → List ℕ
text_at counts at_end = end_text counts
text_at counts (refused n why) = refused_text n why
text_at counts (broken work told) = begun_text work told
text_at counts (unwritten work told) = text_of work told
text_at counts cut = []

abbrev pub HasStatus : Counts → Close → Status → Type 0
HasStatus counts at_end s = is_complete s ≡ true → s ≡ end_status counts
HasStatus counts (refused n why) s = is_complete s ≡ true → s ≡ ended.Refused
HasStatus counts (broken work told) s = is_complete s ≡ false
HasStatus counts (unwritten work told) s = is_complete s ≡ false
HasStatus counts cut s = is_complete s ≡ false

-- The script ended at a line: the text was written, or a front of it where the sink failed.
pub record StopsAt (number : ℕ) (given : Result Work LineRefusal) (before after : Point)
    (status : Status) : Type 0 where
  pub close : Close
  pub closes : ClosesAt number given before.scene close after.scene
  pub counted : after.counts ≡ with_events before.counts (told_at close)
  pub status_is : HasStatus after.counts close status
  pub whole : is_complete status ≡ true → Appends before.text after.text (text_at after.counts close)
  pub part : AppendsFront before.text after.text (text_at after.counts close)

-- a line that asks for this was run, or a name of it isn't there and nothing was done, or the sink failed
abbrev pub RunsOn : (given : Result Work LineRefusal) → (before after : Point)
    → Result (Option LineRefusal) Failed → Type 0
RunsOn given before after (Ok None) = RanWhole given before after
RunsOn given before after (Ok (Some why)) = (given ≡ Err why) × (after ≡ before)
RunsOn given before after (Err failed) = (number : ℕ) → StopsAt number given before after ended.SinkFault

-- a line of that number was run, or the script ended at it
abbrev pub Turns : (number : ℕ) → (given : Result Work LineRefusal) → (before after : Point) → Turn → Type 0
Turns number given before after Next = RanWhole given before after
Turns number given before after (Stop s) = StopsAt number given before after s

-- ---- a script

-- a line that was run whole: what it asked for, its events, and what stands right after it
pub record DoneLine : Type 0 where
  pub work : Work
  pub told : List Told
  pub scene : Scene

-- The lines from that number on: each was run from where the one before ended, and then the script ended so.
abbrev pub Happens : (number : ℕ) → Scene → List (List ℕ) → List DoneLine → Close → Scene → Type 0
Happens number s [] [] close new = ClosesBehind s close new
Happens number s [] (d ∷ done) close new = ⊥
Happens number s (line ∷ lines) [] close new = ClosesAt number (asked s.model (said number line)) s close new
Happens number s (line ∷ lines) (d ∷ done) close new =
    (asked s.model (said number line) ≡ Ok d.work) × Does d.work s d.told d.scene
    × Happens (number + 1) d.scene lines done close new

-- all events
abbrev pub told_by : List DoneLine → Close → List Told
told_by [] close = told_at close
told_by (d ∷ done) close = d.told ++ told_by done close

-- the whole text
abbrev pub text_by : Counts → List DoneLine → Close → List ℕ
text_by counts [] close = text_at counts close
text_by counts (d ∷ done) close = text_of d.work d.told ++ text_by counts done close

-- Lines were played: what was written is the text of their events, or a front of it where the sink failed.
pub record Plays (number : ℕ) (before : Point) (lines : List (List ℕ)) (after : Point) (status : Status) : Type 0 where
  pub done : List DoneLine
  pub close : Close
  pub happens : Happens number before.scene lines done close after.scene
  pub counted : after.counts ≡ with_events before.counts (told_by done close)
  pub status_is : HasStatus after.counts close status
  pub whole : is_complete status ≡ true → Appends before.text after.text (text_by after.counts done close)
  -- after a source that failed it was written whole
  pub at_fault : status ≡ ended.SourceFault → Appends before.text after.text (text_by after.counts done close)
  pub part : AppendsFront before.text after.text (text_by after.counts done close)

-- the lines of an input, where the source tells its bytes
abbrev pub PlaysInput : (number : ℕ) → (before : Point) → (input : Option (List ℕ)) → (after : Point) → Status → Type 0
PlaysInput number before input after s = IfSome input (λ bytes. Plays number before (lines_of bytes) after s)

-- ---- a script whose source failed

-- Bytes were taken from the front of an input, and as many lines were run as end among these, with nothing more.
-- `lines` says which lines end among some bytes.
pub record RunsTaken (lines : List ℕ → List (List ℕ)) (bytes : List ℕ) (left : Option (List ℕ))
    (done : List DoneLine) (close : Close) : Type 0 where
  pub taken : List ℕ
  pub others : List ℕ
  pub split : taken ++ others ≡ bytes
  pub is_left : left ≡ Some others
  pub every : length done ≡ length (lines taken)
  pub no_more : close ≡ cut

-- Lines were played until the source failed: exactly those that were taken whole.
pub record PlaysTaken (number : ℕ) (before : Point) (bytes : List ℕ) (left : Option (List ℕ)) (after : Point)
    : Type 0 where
  pub plays : Plays number before (lines_of bytes) after ended.SourceFault
  pub runs : RunsTaken whole_lines bytes left plays.done plays.close

-- of an input, where the source tells its bytes
abbrev pub PlaysCut : (number : ℕ) → (before : Point) → (input left : Option (List ℕ)) → (after : Point) → Type 0
PlaysCut number before input left after = IfSome input (λ bytes. PlaysTaken number before bytes left after)

-- ---- a whole script

abbrev pub counting : Point → Counts → Point
counting p counts = record p { counts = counts }

-- It was counted from nothing; its counts were added to those before.
pub record PlaysAll (before : Point) (bytes : List ℕ) (left : Option (List ℕ)) (after : Point) (status : Status)
    : Type 0 where
  pub own : Counts
  pub risen : after.counts ≡ added before.counts own
  pub plays : Plays 1 (counting before no_counts) (lines_of bytes) (counting after own) status
  -- the device was asked exactly what the events of this log say
  pub asked : IsAskedBy before.scene.account (told_by plays.done plays.close) after.scene.account
  -- after a source that failed these are exactly the lines that were taken whole
  pub at_fault : status ≡ ended.SourceFault → RunsTaken whole_lines bytes left plays.done plays.close

-- of an input, where the source tells its bytes
abbrev pub PlaysOnAnyDevice : (before : Point) → (input left : Option (List ℕ)) → (after : Point) → Status → Type 0
PlaysOnAnyDevice before input left after s = IfSome input (λ bytes. PlaysAll before bytes left after s)
