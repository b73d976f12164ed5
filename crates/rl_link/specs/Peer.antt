-- What a talk takes from its peer.
use Rattle.std.specs.Prelude.{◌≡◌, ℕ, ◌+◌, ◌-◌, ◌^◌, ◌≤◌, Bool, true, false, if◌then◌else◌, List, codes, Option, Some, IfSome, IsNone, IsSome, is_some, min}
use Rattle.std.specs.Io.KnownBytes.{Appends}
use Rattle.rl_bus.specs.Causes.{Rose}
use Rattle.rl_bus.specs.declared.op.Answer.{Answer}
use Rattle.rl_bus.specs.declared.op.BusOp.{BusOp}
use Rattle.rl_report.specs.declared.sink.Sink.{Ghosts as Sink}
use Rattle.rl_report.specs.Pieces.{AppendsFront}
use Rattle.rl_link.specs.declared.answer.Cause.{Cause}
use Rattle.rl_link.specs.declared.link.Break.{Break}
use Rattle.rl_link.specs.declared.link.Link.{Link}
use Rattle.rl_link.specs.declared.talk.Talk.{Talk}
use Rattle.rl_link.specs.Coming.{coming, Answers, IsDone, Takes}
use Rattle.rl_link.specs.Message.{break_text}

-- what is held, and then what the source has left
abbrev pub coming_to : {S K : Type 0} → (S → Option (List ℕ)) → Talk S K → Option (List ℕ)
coming_to left talk = coming talk.held (left talk.source)

-- Whole lines were taken from the front, and each counts one.
abbrev pub CountsLines : {S K : Type 0} → (S → Option (List ℕ)) → (old new : Talk S K) → Type 0
CountsLines left old new = Takes old.lines new.lines (coming_to left old) (coming_to left new)

-- The line that answers this operation was taken.
abbrev pub TakesAnswer : {S K : Type 0} → (S → Option (List ℕ)) → (old new : Talk S K) → BusOp → Answer → Type 0
TakesAnswer left old new op answer =
    IfSome (coming_to left old) (λ bytes. Answers op.write op.bytes bytes answer (coming_to left new))

-- The line that tells whether something else was done was taken.
abbrev pub TakesDone : {S K : Type 0} → (S → Option (List ℕ)) → (old new : Talk S K) → (done : Bool) → Type 0
TakesDone left old new done = IfSome (coming_to left old) (λ bytes. IsDone bytes done (coming_to left new))

-- one that wasn't done counts
abbrev pub counted : ℕ → (done : Bool) → ℕ
counted undone true = undone
counted undone false = min (undone + 1) (2 ^ 64 - 1)

-- a link that breaks for a cause: the first one is remembered, with its line; what is told of it stands in `new`
abbrev pub broken_for : {S K N M : Type 0} → (old : Link S K N M) → Cause → (new : Link S K N M) → Link S K N M
broken_for old cause new = record old {
  broken = if is_some old.broken then old.broken
      else Some (record { cause = cause; line = min (old.talk.lines + 1) (2 ^ 64 - 1) });
  notes = new.notes;
  messages = new.messages;
}

-- and whose failure counts
abbrev pub broken_off : {S K N M : Type 0} → (old : Link S K N M) → Cause → (new : Link S K N M) → Link S K N M
broken_off old cause new = broken_for (record old { errors = min (old.errors + 1) (2 ^ 64 - 1) }) cause new

-- Where a link is broken, it broke at the line behind these.
abbrev pub BrokeBehind : (lines : ℕ) → Option Break → Type 0
BrokeBehind lines broken = IfSome broken (λ broken. broken.line ≡ min (lines + 1) (2 ^ 64 - 1))

-- It was answered whether a reset or a change was done, and counts where it wasn't.
pub record TellsDone {S K N M : Type 0} (left : S → Option (List ℕ)) (old new : Link S K N M) : Type 0 where
  pub done : Bool
  pub takes : TakesDone left old.talk new.talk done
  pub counts : new.undone ≡ counted old.undone done

-- A link only talks: a broken one is silent, and it counts no error of its own.
pub record OnlyTalks {S K N M : Type 0} (left : S → Option (List ℕ)) (old new : Link S K N M) : Type 0 where
  pub silent : IsSome old.broken → new.talk ≡ old.talk
  pub lines : CountsLines left old.talk new.talk
  pub names : new.names ≡ old.names
  pub errors : new.errors ≡ old.errors
  pub undone : new.undone ≡ old.undone
  pub broken : new.broken ≡ old.broken

-- A link is the same one after a call: once broken, it is silent and stays so, and else it breaks
-- behind the lines that it took.
pub record KeepsOn {S K N M : Type 0} (left : S → Option (List ℕ)) (old new : Link S K N M) : Type 0 where
  pub silent : IsSome old.broken → (new.talk ≡ old.talk) × (new.broken ≡ old.broken)
  pub names : new.names ≡ old.names
  pub lines : CountsLines left old.talk new.talk
  pub line : IsNone old.broken → BrokeBehind new.talk.lines new.broken

-- ---- what is told

-- The text was written to a sink, or a front of it where the sink failed.
pub record Tells {Q : Type 0} (sink : Sink Q) (old new : Q) (text : List ℕ) : Type 0 where
  pub later : sink.faults old ≤ sink.faults new
  pub whole : (Rose (sink.faults old) (sink.faults new) → ⊥) → Appends (sink.written old) (sink.written new) text
  pub part : AppendsFront (sink.written old) (sink.written new) text

-- A break is told in the log, with its cause and its line, what came and the request; and nothing else is.
pub record TellsBreak {S K N M : Type 0} (notes : Sink N) (old new : Link S K N M) : Type 0 where
  pub told : IsNone old.broken → IfSome new.broken (λ broken.
      Tells notes old.notes new.notes (break_text (codes "# ") broken new.talk.held new.request.items))
  pub silent : IsSome old.broken → new.notes ≡ old.notes
  pub whole : IsNone new.broken → new.notes ≡ old.notes
