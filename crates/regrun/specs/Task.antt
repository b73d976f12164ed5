-- What a call does by what it is asked: one task, from the source and the output before it to those after it.
use Rattle.std.specs.Prelude.{◌≡◌, ◌≢◌, ℕ, List, true, All, Option, IfSome, IfOk}
use Rattle.rl_bus.specs.Standing.{kinds_of}
use Rattle.rl_log.specs.declared.status.Status.{Status}
use Rattle.rl_log.specs.declared.status.Status.TheVariants.{Found, Memory, SourceFault}
use Rattle.rl_log.specs.Events.{IsLawful}
use Rattle.rl_log.specs.Statuses.{is_complete}
use Rattle.rl_session_run.specs.Opening.{LeavesScript}
use Rattle.rl_session_run.specs.Output.{Output, WritesJudged}
use Rattle.rl_session_laws.specs.PlainLog.{IsSteadyOpening, WritesPlainLog}
use Rattle.rl_report.specs.Opening.{TakesNoHead}
use Rattle.rl_session.specs.Judged.{judged, judged_events, map_judged, soak_judged, taken_text}
use Rattle.rl_session.specs.Session.{opening_of, script_of}
use Rattle.rl_weave_laws.specs.Scripts.{WritesWovenPlain}
use Rattle.rl_weave_log.specs.Judged.{woven_judged, woven_taken_text}
use Rattle.regrun.specs.declared.words.Task.{Task}
use Rattle.regrun.specs.declared.words.Task.TheVariants.{Run, Map, Soak, Weave}
use Rattle.regrun.specs.Output.{BreaksOff, WritesEvents}

-- In each of these, `input` and `left` are the bytes that the source has before and after
-- the call, where it tells them.

pub record Runs (status : Status) (input left : Option (List ℕ)) (before after : Output) : Type 0 where
  -- The headline: `run` writes the judged log of the session, and answers its status; the adapters then stand as its
  -- items leave them. After any fault, and where memory ran out, it wrote a front of that.
  pub run : IfSome input (λ bytes. WritesJudged (judged bytes) status before after)
  -- Each event of that log is lawful. One that ended by a bus error left the mirrored values, the desired values
  -- and the marks of first writes as they were. A check names exactly the compared fields whose bits in the value read
  -- aren't those that were mirrored before the read, and one of a memory's location is marked exactly where it read
  -- another value. Nothing else names any.
  pub lawful : IfSome input (λ bytes. All IsLawful (judged_events bytes before.adapters))
  -- What is said of these events is said of what was written: as a whole it is, line by line,
  -- the text of each of them in order.
  pub events : is_complete status ≡ true → IfSome input (λ bytes.
      IfOk (opening_of bytes (kinds_of before.adapters)) (λ desc.
      WritesEvents (script_of bytes) (judged_events bytes before.adapters) before.text after.text))
  -- The other half. Where the description declares no flaw and no volatile field, and wherever the session
  -- is refused before its script, what `run` wrote as a whole is, without its item lines, the log of a plain machine
  -- that steps whole registers.
  pub plain : is_complete status ≡ true → IfSome input (λ bytes.
      IsSteadyOpening (opening_of bytes (kinds_of before.adapters))
      → WritesPlainLog bytes (kinds_of before.adapters) before.text after.text)
  -- After a source that failed, the sink has exactly the log of the lines that were taken whole.
  pub at_fault : status ≡ SourceFault → IfSome input (λ bytes.
      BreaksOff taken_text bytes before.adapters left before.text after.text)

pub record Maps (status : Status) (input left : Option (List ℕ)) (before after : Output) : Type 0 where
  -- `map` writes where the items stand, and compares nothing.
  pub map : IfSome input (λ bytes. WritesJudged (map_judged bytes) status before after)
  pub map_status : status ≢ Found
  -- It leaves the script: where the source fails, no whole separator was taken. Else, but for want of memory,
  -- the script is unread but for what was taken with the separator.
  pub map_at_fault : status ≡ SourceFault → IfSome input (λ bytes. TakesNoHead bytes left)
  pub map_unread : status ≢ SourceFault → status ≢ Memory → IfSome input (λ bytes. LeavesScript bytes left)

pub record Soaks (n : ℕ) (status : Status) (before after : Output) : Type 0 where
  -- `soak` and a number writes the line of the session that the number makes, and never fails by the source.
  pub soak : WritesJudged (soak_judged n) status before after
  pub soak_status : status ≢ SourceFault

pub record Weaves (n : ℕ) (status : Status) (input left : Option (List ℕ)) (before after : Output) : Type 0 where
  -- `weave` and a number writes the log of the session with its words drawn from the number on, and answers its status.
  -- After any fault, and where memory ran out, it wrote a front of that.
  pub weave : IfSome input (λ bytes. WritesJudged (woven_judged n bytes) status before after)
  -- The other half. Let the description declare no flaw and no volatile field. Then what `weave` wrote as a whole is,
  -- without its item lines, the plain machine's log with the lines of each group in some order. It goes up to its last
  -- line or the line at which the weave stops. Wherever the session is refused before its script, it is that log.
  pub plain : is_complete status ≡ true
      → IfSome input (λ bytes. WritesWovenPlain n bytes before.adapters before.text after.text)
  -- After a source that failed, the sink has exactly the log of the groups whose blank line was taken whole.
  pub weave_at_fault : status ≡ SourceFault → IfSome input (λ bytes.
      BreaksOff (woven_taken_text n) bytes before.adapters left before.text after.text)

abbrev pub DoesTask : Task → Status → (input left : Option (List ℕ)) → (before after : Output) → Type 0
DoesTask Run status input left before after = Runs status input left before after
DoesTask Map status input left before after = Maps status input left before after
DoesTask (Soak n) status input left before after = Soaks n status before after
DoesTask (Weave n) status input left before after = Weaves n status input left before after

pub record Does (task : Task) (status : Status) (input left : Option (List ℕ)) (before after : Output) : Type 0 where
  pub does : DoesTask task status input left before after
  -- Whatever it does, the adapters keep their kinds.
  pub kinds : kinds_of after.adapters ≡ kinds_of before.adapters
