-- A script that is played on a device which reports nothing, and the session that it belongs to.
use Rattle.std.specs.Prelude.{◌≡◌, ℕ, List, false, Option, None, IfSome, unwrap_or, Result, Ok, Err}
use Rattle.std.specs.Io.KnownBytes.{Keeps}
use Rattle.rl_access.specs.Asking.{IsAskedBy}
use Rattle.rl_access.specs.Call.{scene}
use Rattle.rl_bus.specs.Account.{Account}
use Rattle.rl_bus.specs.Standing.{Standing}
use Rattle.rl_desc.specs.Data.{DescData}
use Rattle.rl_log.specs.declared.status.Status.{Status}
use Rattle.rl_log.specs.declared.status.Status.TheVariants.{Refused, SourceFault}
use Rattle.rl_log.specs.Recording.{no_counts}
use Rattle.rl_log.specs.Statuses.{is_complete}
use Rattle.rl_log.specs.Telling.{Tells}
use Rattle.rl_play.specs.AnyDevice.{Point, Plays, RunsTaken, told_by}
use Rattle.rl_report.specs.Lines.{lines_of, whole_lines}
use Rattle.rl_report.specs.Opening.{separator_at}
use Rattle.rl_session.specs.Judged.{first_world}
use Rattle.rl_session.specs.Session.{behind, script_of}

-- ---- a script

-- before its first line: a model that was just built, and a device with this account, which doesn't tell its state
abbrev pub first_point : DescData → List Standing → Account → (text : Option (List ℕ)) → Point
first_point desc adapters account text = record {
  scene = scene (first_world desc adapters).model adapters account None;
  text = text;
  counts = no_counts;
}

-- The lines of some bytes were played from there on: the text of events was written, each of which performs its line's
-- operation from where the one before ended. `lines` are those of all bytes, and `whole` those that end among some.
pub record PlaysLines (desc : DescData) (lines whole : List ℕ → List (List ℕ)) (bytes : List ℕ)
    (left : Option (List ℕ)) (status : Status) (old new : Option (List ℕ))
    (adapters now : List Standing) (first account : Account) : Type 0 where
  pub last : Point
  pub plays : Plays 1 (first_point desc adapters first old) (lines bytes) last status
  pub text_is : last.text ≡ new
  pub adapters_are : last.scene.adapters ≡ now
  pub account_is : last.scene.account ≡ account
  -- the device was asked exactly what the events of this log say
  pub asked : IsAskedBy first (told_by plays.done plays.close) account
  -- after a source that failed these are exactly the lines that were taken whole
  pub at_fault : status ≡ SourceFault → RunsTaken whole bytes left plays.done plays.close

-- the lines of an input, where the source tells its bytes
abbrev pub PlaysRest : DescData → (input left : Option (List ℕ)) → Status → (old new : Option (List ℕ))
    → (adapters now : List Standing)
    → (first account : Account) → Type 0
PlaysRest desc input left status old new adapters now first account =
    IfSome input (λ bytes. PlaysLines desc lines_of whole_lines bytes left status old new adapters now first account)

-- ---- a session

-- the lines of a script that end among the bytes which were taken of the session
abbrev pub whole_script : (taken : List ℕ) → List (List ℕ)
whole_script taken = whole_lines (behind (separator_at taken) taken)

-- It ended before its script, by a fault: nothing was written.
pub record IsUnreached (status : Status) (old new : Option (List ℕ)) (adapters now : List Standing) : Type 0 where
  pub broken : is_complete status ≡ false
  pub unwritten : Keeps old new
  pub untouched : now ≡ adapters

-- From what a session opens with, its bytes and what its source has left of them to its status, from what its log had
-- before to what it has after, from the adapters as they stood to how they stand; and from the account of a device that
-- was made for a description to that of the one that is handed out, where one is.
pub record RunsSession (opening : Result DescData (List ℕ)) (bytes : List ℕ) (left : Option (List ℕ))
    (status : Status) (old new : Option (List ℕ)) (adapters now : List Standing) (first : DescData → Account)
    (account : Option Account) : Type 0 where
  -- Where it is refused before its script, exactly the line that says so is written, and the status is `Refused`.
  -- After any fault, and where memory ran out, a front of that line was written.
  pub refused : (line : List ℕ) → opening ≡ Err line → Tells status Refused old new line
  -- The adapters then stand as before.
  pub untouched : (line : List ℕ) → opening ≡ Err line → now ≡ adapters
  -- Where it isn't, its script is played, with the status that goes by what happened. After a fault, and where memory
  -- ran out, a front of that was written; after a source that failed, the whole text of the lines that were taken.
  pub played : (desc : DescData) → opening ≡ Ok desc
      → PlaysLines desc script_of whole_script bytes left status old new adapters now
      (first desc) (unwrap_or account (first desc))
  -- Where no device is handed out, it didn't come to its script.
  pub unreached : (desc : DescData) → opening ≡ Ok desc → account ≡ None → IsUnreached status old new adapters now
