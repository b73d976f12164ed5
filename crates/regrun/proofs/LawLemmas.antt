-- The laws of the events of a session, and the log that tells them.
use Rattle.std.proofs.Common.{◌≡◌, ℕ, true, List, Option, Some, None, IfSome, Result, Ok, Err, IfOk}
use Rattle.std.specs.Prelude.{All}
use Rattle.std.proofs.lemmas.List.Elements.{All-nil}
use Rattle.rl_bus.specs.Standing.{Standing, kinds_of}
use Rattle.rl_desc.specs.Data.{DescData}
use Rattle.rl_log.specs.declared.status.Status.{Status}
use Rattle.rl_log.specs.Events.{IsLawful}
use Rattle.rl_log.specs.Recording.{no_counts}
use Rattle.rl_log.specs.Statuses.{is_complete}
use Rattle.rl_log.proofs.EventLemmas.{every_event_lawful}
use Rattle.rl_log.proofs.LineLemmas.{every_log_tells}
use Rattle.rl_session.specs.Judged.{events_by, judged, judged_by, judged_events, first_world}
use Rattle.rl_session.specs.Session.{opening_of, script_of}
use Rattle.rl_session_run.specs.Output.{IsJudged}
use Rattle.regrun.specs.Output.{WritesEvents}

lawful_by : (o : Result DescData (List ℕ)) (bytes : List ℕ) (adapters : List Standing) → All IsLawful (events_by o bytes adapters)
lawful_by (Ok desc) bytes adapters = every_event_lawful 1 (first_world desc adapters) (script_of bytes)
lawful_by (Err line) bytes adapters = All-nil IsLawful

pub all_lawful : (left : Option (List ℕ)) (adapters : List Standing) → IfSome left (λ bytes. All IsLawful (judged_events bytes adapters))
all_lawful None adapters = tt
all_lawful (Some bytes) adapters = lawful_by (opening_of bytes (kinds_of adapters)) bytes adapters

-- what was written as a whole tells its events
events_by_opening : (o : Result DescData (List ℕ)) (bytes : List ℕ) (adapters now : List Standing) (status : Status) (old new : Option (List ℕ))
    → is_complete status ≡ true → IsJudged (judged_by o bytes adapters) status old new now
    → IfOk o (λ desc. WritesEvents (script_of bytes) (events_by o bytes adapters) old new)
events_by_opening (Ok desc) bytes adapters now status old new whole ran = record {
  text = (judged_by (Ok desc) bytes adapters).text;
  written = (ran.tells.whole whole).1;
  log = every_log_tells 1 no_counts (first_world desc adapters) (script_of bytes);
}
events_by_opening (Err line) bytes adapters now status old new whole ran = tt

pub events_written : (left : Option (List ℕ)) (adapters now : List Standing) (status : Status) (old new : Option (List ℕ))
    → is_complete status ≡ true → IfSome left (λ bytes. IsJudged (judged bytes adapters) status old new now)
    → IfSome left (λ bytes. IfOk (opening_of bytes (kinds_of adapters)) (λ desc.
    WritesEvents (script_of bytes) (judged_events bytes adapters) old new))
events_written None adapters now status old new whole ran = tt
events_written (Some bytes) adapters now status old new whole ran =
    events_by_opening (opening_of bytes (kinds_of adapters)) bytes adapters now status old new whole ran
