-- Why a call failed.
use Rattle.std.specs.Prelude.{◌≡◌, ℕ, ◌+◌, ◌-◌, ◌^◌, ◌<◌, ◌≤◌, min, List, IfSome, length, Option, Some, Result, Err}
use Rattle.rl_bus.specs.Causes.{Rose}
use Rattle.rl_report.specs.Lines.{first_line}
use Rattle.rl_report.specs.declared.sink.Sink.{Ghosts as Sink}
use Rattle.rl_report.specs.declared.source.Source.{Ghosts as Source}
use Rattle.rl_link.specs.declared.answer.Cause.{Cause}
use Rattle.rl_link.specs.declared.answer.Cause.TheVariants.{Unsent, Unread, Closed, TooLong, TooMany, Unasked, Unclear, TooWide, Backdoor, Memory}
use Rattle.rl_link.specs.declared.answer.Said.{Said}
use Rattle.rl_link.specs.declared.talk.Talk.{Talk}
use Rattle.rl_link.specs.Answers.{said_in}
use Rattle.rl_link.specs.Coming.{coming, answer_from, HasLine, HoldsAnswer}

-- a line wasn't read
abbrev pub IsCauseOfLine : Cause → Type 0
IsCauseOfLine Unread = Unit {0}
IsCauseOfLine Closed = Unit {0}
IsCauseOfLine TooLong = Unit {0}
IsCauseOfLine _ = ⊥

-- a line that answers wasn't read
abbrev pub IsCauseOfReading : Cause → Type 0
IsCauseOfReading TooMany = Unit {0}
IsCauseOfReading cause = IsCauseOfLine cause

-- a request wasn't sent, or the line that answers wasn't read
abbrev pub IsCauseOfAsking : Cause → Type 0
IsCauseOfAsking Unsent = Unit {0}
IsCauseOfAsking Unasked = Unit {0}
IsCauseOfAsking cause = IsCauseOfReading cause

-- The answer came, and is none that the request can have.
pub record Misanswers {A : Type 0} (answer : Said → Result A Cause) (bytes : List ℕ) (cause : Cause)
    (new : Option (List ℕ)) : Type 0 where
  pub rest : new ≡ Some (answer_from bytes)
  pub whole : HasLine (answer_from bytes)
  pub says : answer (said_in (first_line (answer_from bytes))) ≡ Err cause

abbrev pub MisanswersBy : {S K A : Type 0} → Source S → (answer : Said → Result A Cause)
    → (old new : Talk S K) → Cause → Type 0
MisanswersBy s answer old new cause =
    IfSome (coming old.held (s.left old.source)) (λ bytes.
    Misanswers answer bytes cause (coming new.held (s.left new.source)))

-- Why a link broke that asked: the sink failed; an answer was held that nothing was asked for; the source failed; or it
-- ended. Or a line is too long; too many lines are no answer; or the answer is none that the request can have. Want of
-- memory alone is free.
abbrev pub IsCauseOfBreak : {S K A : Type 0} → Source S → Sink K → (answer : Said → Result A Cause)
    → (old new : Talk S K) → Cause → Type 0
IsCauseOfBreak s k answer old new Unsent = Rose (k.faults old.sink) (k.faults new.sink)
IsCauseOfBreak s k answer old new Unasked = HoldsAnswer old.held
IsCauseOfBreak s k answer old new Unread = Rose (s.faults old.source) (s.faults new.source)
IsCauseOfBreak s k answer old new Closed =
    IfSome (coming new.held (s.left new.source)) (λ bytes. first_line bytes ≡ bytes)
IsCauseOfBreak s k answer old new TooLong =
    IfSome (coming new.held (s.left new.source)) (λ bytes. 4096 < length (first_line bytes))
IsCauseOfBreak s k answer old new TooMany = min (old.lines + 10000) (2 ^ 64 - 1) ≤ new.lines
IsCauseOfBreak s k answer old new Unclear = MisanswersBy s answer old new Unclear
IsCauseOfBreak s k answer old new TooWide = MisanswersBy s answer old new TooWide
IsCauseOfBreak s k answer old new Backdoor = ⊥
IsCauseOfBreak s k answer old new Memory = Unit {0}
