-- A session whose accesses are woven, on a device that does as described, writes the plain machine's log group by group.
use Rattle.std.proofs.Common.{◌≡◌, ℕ, true, List, Option, Some, None, IfSome}
use Rattle.std.specs.Io.KnownBytes.{Keeps}
use Rattle.std.proofs.KnownBytes.{Appends-kept}
use Rattle.rl_bus.specs.Standing.{Standing, kinds_of}
use Rattle.rl_log.specs.declared.status.Status.{Status}
use Rattle.rl_log.specs.Statuses.{is_complete}
use Rattle.rl_session.specs.Session.{opening_of}
use Rattle.rl_session_run.specs.Output.{IsJudged}
use Rattle.rl_session_run.specs.Telling.{Stops}
use Rattle.rl_session_run.proofs.StopLemmas.{stops_refused}
use Rattle.rl_weave_laws.specs.Scripts.{IsWovenLogPlain, WritesWovenPlain}
use Rattle.rl_weave_laws.proofs.Sessions.{woven_refused}
use Rattle.rl_weave_log.specs.Judged.{woven_judged}

pub woven_stopped : (n : ℕ) (left : Option (List ℕ)) (adapters : List Standing) (status : Status) (old new : Option (List ℕ)) → is_complete status ≡ true
    → IfSome left (λ bytes. Stops (opening_of bytes (kinds_of adapters)) status old new) → IfSome left (λ bytes. IsWovenLogPlain n bytes adapters)
woven_stopped n None adapters status old new whole h = tt
woven_stopped n (Some bytes) adapters status old new whole h =
    woven_refused n bytes adapters (stops_refused (opening_of bytes (kinds_of adapters)) status old new whole h)

pub woven_written : (n : ℕ) (left : Option (List ℕ)) (adapters now : List Standing) (status : Status) (old new : Option (List ℕ))
    → is_complete status ≡ true → IfSome left (λ bytes. IsJudged (woven_judged n bytes adapters) status old new now)
    → IfSome left (λ bytes. IsWovenLogPlain n bytes adapters) → IfSome left (λ bytes. WritesWovenPlain n bytes adapters old new)
woven_written n None adapters now status old new whole ran log = tt
woven_written n (Some bytes) adapters now status old new whole ran log = record {
  text = (woven_judged n bytes adapters).text;
  written = (ran.tells.whole whole).1;
  same = log.same;
}

-- what was told is written out
pub woven_later : (n : ℕ) (left : Option (List ℕ)) (adapters : List Standing) (old told new : Option (List ℕ)) → Keeps told new
    → IfSome left (λ bytes. WritesWovenPlain n bytes adapters old told) → IfSome left (λ bytes. WritesWovenPlain n bytes adapters old new)
woven_later n None adapters old told new keeps h = tt
woven_later n (Some bytes) adapters old told new keeps h =
    record { text = h.text; written = Appends-kept old told new h.text h.written keeps; same = h.same }
