-- What was written of a line and of a script, against what they come to.
use Rattle.std.specs.Prelude.{◌≡◌, ℕ, ◌+◌, ◌≤◌, List, Bool, true, false, Option, Some, None, IfSome, Result, Ok, Err}
use Rattle.std.specs.Io.KnownBytes.{Appends}
use Rattle.rl_access.specs.Model.{ModelData}
use Rattle.rl_access.specs.World.{World, world}
use Rattle.rl_bus.specs.State.{State}
use Rattle.rl_log.specs.declared.refusal.LineRefusal.{LineRefusal}
use Rattle.rl_log.specs.declared.status.Status.{Status}
use Rattle.rl_log.specs.declared.status.Status.TheVariants.{SourceFault}
use Rattle.rl_log.specs.Endings.{IsCounted}
use Rattle.rl_log.specs.Log.{Ending}
use Rattle.rl_log.specs.Statuses.{is_complete}
use Rattle.rl_play.specs.declared.playing.TheConstants.{MOST_LINES}
use Rattle.rl_play.specs.declared.playing.Turn.{Turn}
use Rattle.rl_play.specs.declared.playing.Turn.TheVariants.{Next, Stop}
use Rattle.rl_play.specs.Leaves.{stop_of}
use Rattle.rl_play.specs.Played.{EndsAs, LinesBreak, PassesTo}
use Rattle.rl_report.specs.Lines.{lines_of}
use Rattle.rl_report.specs.Pieces.{AppendsFront}
use Rattle.rl_script.specs.declared.line.Line.{Line}
use Rattle.rl_weave.specs.Weave.{WeaveData, IsWeaveOn, empty}
use Rattle.rl_weave_log.specs.declared.refusal.WovenRefusal.{WovenRefusal}
use Rattle.rl_weave_log.specs.Setting.{Setting, weaving_at, IsAtWeaving}
use Rattle.rl_play.specs.Moment.{Moment}
use Rattle.rl_weave_log.specs.WeaveLog.{Weaving, Part, closed_text, comes_of, finished, group, stops, woven_from}

-- it came to its last line, or a front of its text was written
abbrev pub EndsSo : Ending → Status → (old : Option (List ℕ)) → (after : Setting) → Type 0
EndsSo e status old after = EndsAs e status old after.text after.counts after.model after.adapters after.device

-- each access of the group is as the model has it, and none has sent a word
pub record IsGathering (m : ModelData) (w : WeaveData) : Type 0 where
  pub fresh : w.fresh ≡ true
  pub on : IsWeaveOn m w

-- ---- a turn

-- the line was taken in, and its text written
pub record WentOn (comes : Result Part WovenRefusal) (old : Option (List ℕ)) (after : Setting) : Type 0 where
  pub part : Part
  pub is : comes ≡ Ok part
  pub text : Appends old after.text part.text
  pub left : IsAtWeaving after part.after

-- the script ended at it
pub record Stopped (number : ℕ) (comes : Result Part WovenRefusal) (g : Weaving) (status : Status)
    (old : Option (List ℕ)) (after : Setting) : Type 0 where
  pub refused : (why : WovenRefusal) → comes ≡ Err why → EndsSo (stops number why g) status old after
  pub broken : (p : Part) → comes ≡ Ok p → (is_complete status ≡ false) × AppendsFront old after.text p.text

abbrev pub IsTurn : (number : ℕ) → Result Part WovenRefusal → Weaving → (old : Option (List ℕ)) → (after : Setting)
    → Turn → Type 0
IsTurn number comes g old after Next = WentOn comes old after
IsTurn number comes g old after (Stop status) = Stopped number comes g status old after

-- the line of that number, which says this, was taken in, or the script ended at it
abbrev pub Takes : (number : ℕ) → (says : Result Line LineRefusal) → (before after : Setting) → Turn → Type 0
Takes number says before after turn = IfSome before.device (λ d.
    IsTurn number (comes_of (weaving_at before d) says) (weaving_at before d) before.text after turn)

-- ---- a script

-- what the lines of an input come to, where the device tells its state and the source its bytes
abbrev pub coming : (number : ℕ) → Setting → (device : Option State) → (input : Option (List ℕ)) → Option Ending
coming number s (Some d) (Some bytes) = Some (woven_from number (weaving_at s d) (lines_of bytes))
coming number s (Some d) None = None
coming number s None input = None

abbrev pub to_come : (number : ℕ) → Setting → (input : Option (List ℕ)) → Option Ending
to_come number s input = coming number s s.device input

-- one line was taken in, and the script is the rest
abbrev pub GoesOn : (number : ℕ) (before : Setting) (input : Option (List ℕ))
    (after : Setting) (rest : Option (List ℕ)) → Type 0
GoesOn number before input after rest =
    IfSome (to_come number before input) (λ e. PassesTo e (to_come (number + 1) after rest) before.text after.text)

-- the script ended, with its whole log, or with a front of it
abbrev pub Ends : (number : ℕ) → (before : Setting) → (input : Option (List ℕ)) → (after : Setting) → Status → Type 0
Ends number before input after status =
    IfSome (to_come number before input) (λ e. EndsSo e status before.text after)

-- ---- a script whose source failed

-- Bytes were taken from the front of an input. Exactly the log of the groups was written whose blank line,
-- with its 10, is among them.
abbrev pub BreaksAfter : (number : ℕ) → Weaving → (bytes : List ℕ) → (left old new : Option (List ℕ)) → Type 0
BreaksAfter number g bytes left old new = LinesBreak (closed_text number g) bytes left old new

-- where the device tells its state and the source its bytes
abbrev pub Breaks : (number : ℕ) → Setting → (device : Option State) → (input left last : Option (List ℕ)) → Type 0
Breaks number s device input left last =
    IfSome device (λ d. IfSome input (λ bytes. BreaksAfter number (weaving_at s d) bytes left s.text last))

-- from a setting on: this is left of the input, and this is what was written in the end
abbrev pub BreaksFrom : (number : ℕ) → (before : Setting) → (input left last : Option (List ℕ)) → Type 0
BreaksFrom number before input left last = Breaks number before before.device input left last

-- a script breaks off as what is left of it behind a line does
abbrev pub BreaksAsRest : (number : ℕ) (before : Setting) (input : Option (List ℕ))
    (after : Setting) (rest : Option (List ℕ)) → Type 0
BreaksAsRest number before input after rest =
    (left last : Option (List ℕ))
    → BreaksFrom (number + 1) after rest left last → BreaksFrom number before input left last

-- ---- the next line of a script

-- it was read and taken in at one setting, and the script is the rest, or ended at it
pub record WeavesLine (number : ℕ) (before : Setting) (input : Option (List ℕ)) (after : Setting)
    (rest left : Option (List ℕ)) (ended : Bool) (turn : Turn) : Type 0 where
  pub next : turn ≡ Next → GoesOn number before input after rest
  pub stop : (status : Status) → turn ≡ Stop status → Ends number before input after status
  pub at_fault : turn ≡ Stop SourceFault → BreaksFrom number before input left after.text
  pub later_fault : turn ≡ Next → ended ≡ false → BreaksAsRest number before input after rest
  -- at most so many lines are taken in, and a status that goes by the counts goes by these
  pub last : turn ≡ Next → number ≤ MOST_LINES
  pub counted : IfSome (stop_of turn) (λ status. IsCounted status after.counts)

-- ---- the end

-- the last group was run, and the last line was written
abbrev pub EndsGroup : (before after : Setting) → Status → Type 0
EndsGroup before after status = IfSome before.device (λ d.
    EndsSo (finished (group (weaving_at before d))) status before.text after)

-- the lines that are left were taken in, from a setting on, and this is left of the input
pub record WeavesLines (before : Setting) (input left : Option (List ℕ)) (after : Setting)
    (status : Status) : Type 0 where
  pub log : Ends 1 before input after status
  pub at_fault : status ≡ SourceFault → BreaksFrom 1 before input left after.text
  pub counted : IsCounted status after.counts

-- no access yet, and the generator begins at n
abbrev pub first_setting : (n : ℕ) → Moment → Setting
first_setting n before = record {
  weave = empty;
  model = before.model;
  adapters = before.adapters;
  device = before.device;
  drawing = n;
  text = before.text;
  counts = before.counts;
}

-- a whole script came to its last line, or a front of its log was written
abbrev pub WeavesScript : (n : ℕ) → (before : Moment) → (input : Option (List ℕ)) → (after : Moment) → Status → Type 0
WeavesScript n before input after status = IfSome (to_come 1 (first_setting n before) input) (λ e.
    EndsAs e status before.text after.text after.counts after.model after.adapters after.device)

-- a source failed in it: exactly the log of the groups that were closed was written
abbrev pub BreaksWeave : (n : ℕ) → (before : Moment) → (input left last : Option (List ℕ)) → Type 0
BreaksWeave n before input left last = BreaksFrom 1 (first_setting n before) input left last

-- The lines that are left were woven, from a generator that begins at n, and this is left of the input.
pub record WeavesThrough (n : ℕ) (before : Moment) (input left : Option (List ℕ)) (after : Moment)
    (status : Status) : Type 0 where
  -- Where the device tells its state and the source its bytes: what is written is the log of the lines that are left,
  -- with its status and its counts. After any fault, and where memory ran out, it is a front of that log.
  pub log : WeavesScript n before input after status
  -- After a source that failed, what is written is exactly the log of the groups whose closing blank line was taken.
  pub at_fault : status ≡ SourceFault → BreaksWeave n before input left after.text
  -- a status that goes by the counts goes by these
  pub counted : IsCounted status after.counts
