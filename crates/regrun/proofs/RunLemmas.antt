-- A session that was opened and run, or ended before its script.
use Rattle.std.proofs.Common.{◌≡◌, ◌≢◌, ℕ, ◌≤◌, List, Some, None, IfSome, Result, Ok, Err, sym, ap, ◌∙◌}
use Rattle.rl_bus.specs.Standing.{Standing, kinds_of}
use Rattle.rl_access.specs.Model.{ModelData, IsReady}
use Rattle.rl_bench.specs.declared.bench.Bench.{Bench}
use Rattle.rl_bench.specs.State.{bench_state}
use Rattle.rl_desc.specs.Data.{DescData}
use Rattle.rl_log.specs.Causes.{IsCaused}
use Rattle.rl_log.specs.declared.status.Status.{Status}
use Rattle.rl_log.specs.declared.status.Status.TheVariants.{SourceFault}
use Rattle.rl_session_run.specs.Opening.{IsRunnable, OpensWith}
use Rattle.rl_session_run.specs.Stays.{Stays}
use Rattle.rl_session_run.specs.Telling.{Stops}
use Rattle.rl_session_run.proofs.JudgedLemmas.{opened_told, stopped_told}
use Rattle.rl_session_run.proofs.OpeningLemmas.{opens_as, rest_of, head_found}
use Rattle.rl_session_run.proofs.StaysLemmas.{keeps_same, still_out}
use Rattle.rl_play.proofs.LeavesLemmas.{leaves_on}
use Rattle.rl_report.specs.Opening.{TakesNoHead, separator_at}
use Rattle.rl_report.specs.Reading.{Reading}
use Rattle.rl_report.specs.declared.sink.Sink.{Ghosts as Sink}
use Rattle.rl_report.specs.declared.source.Source.{Ghosts as Source}
use Rattle.rl_session_run.specs.Running.{RunsScript}
use Rattle.rl_session_run.proofs.LeavesLemmas.{ended_leaves, opened_leaves}
use Rattle.rl_session.specs.Judged.{Judged, refused}
use Rattle.rl_session.specs.Opened.{IsOpened}
use Rattle.rl_session.specs.Session.{behind, opening_of}
use Rattle.regrun.specs.Output.{RunsWhole}
use Rattle.regrun.proofs.BreakLemmas.{TellsTaken, off_in_head, off_in_script}

module _ {S K : Type 0} (source : Source S) (sink : Sink K) (is_out : K → Type 0)
    (judge : Result DescData (List ℕ) → (bytes : List ℕ) → List Standing → Judged)
    (of_script : DescData → (script : List ℕ) → List Standing → Judged)
    {log : List ℕ → List Standing → List ℕ} {lines : DescData → List Standing → List (List ℕ) → List ℕ} (t : TellsTaken log lines) where
  abbrev by_opening : (bytes : List ℕ) → List Standing → Judged
  by_opening bytes adapters = judge (opening_of bytes (kinds_of adapters)) bytes adapters

  pub runs_opened : ((desc : DescData) (bytes : List ℕ) (adapters : List Standing)
      → judge (Ok desc) bytes adapters ≡ of_script desc (behind (separator_at bytes) bytes) adapters)
      → (before mid after : S) (old opened new : K) (adapters now : List Standing) (desc : DescData) (reader : Reading) (status : Status)
      → IfSome (source.left before) (λ bytes. OpensWith bytes (kinds_of adapters) desc reader (source.left mid)) → opened ≡ old
      → source.faults before ≤ source.faults mid → Stays sink.faults sink.ends sink.target old opened
      → RunsScript source sink is_out (of_script desc) (lines desc) reader mid after opened new adapters now status
      → RunsWhole source sink is_out by_opening log before after old new adapters now status
  runs_opened is before mid after old opened new adapters now desc reader status opens same later stays runs =
      let opening = opens_as _ _ _ _ _ opens in
      let keeps = keeps_same sink.written old opened same in
      record {
        tells = opened_told judge of_script is _ _ _ _ _ _ _ _ _ opening (rest_of _ _ _ _ _ opens) keeps runs.tells;
        at_fault = λ fault. off_in_script log lines t _ _ _ _ _ _ _ _ _ (head_found _ _ _ _ _ opens) (runs.unended fault).0 opening keeps
            (runs.at_fault fault);
        flushed = λ fault out. (runs.unended fault).1;
        leaves = leaves_on sink _ _ _ _ _ _ None _ (opened_leaves sink _ _ _ _ later stays) runs.leaves;
      }

  pub runs_stopped : ((line bytes : List ℕ) (adapters : List Standing) → judge (Err line) bytes adapters ≡ refused line adapters)
      → (before after : S) (old new : K) (adapters : List Standing) (status : Status)
      → IfSome (source.left before) (λ bytes. Stops (opening_of bytes (kinds_of adapters)) status (sink.written old) (sink.written new))
      → (status ≡ SourceFault → IfSome (source.left before) (λ bytes. TakesNoHead bytes (source.left after)))
      → (status ≡ SourceFault → new ≡ old) → source.faults before ≤ source.faults after
      → IsCaused status (source.faults before) (source.faults after) (sink.faults old) (sink.faults new)
      → Stays sink.faults sink.ends sink.target old new
      → RunsWhole source sink is_out by_opening log before after old new adapters adapters status
  runs_stopped is before after old new adapters status stops head same later cause stays = record {
    tells = stopped_told judge of_script is _ _ _ _ _ stops;
    at_fault = λ fault. off_in_head t _ _ _ _ _ (head fault) (keeps_same sink.written old new (same fault));
    flushed = λ fault out. still_out is_out old new (same fault) out;
    leaves = ended_leaves sink _ _ _ _ _ later cause stays;
  }

-- what was opened is ready for the adapters with which its description is runnable
pub opened_ready : (desc : DescData) (model : ModelData) (bench : Bench) (adapters : List Standing) → IsRunnable desc (kinds_of adapters)
    → IsOpened desc model bench → IsReady model adapters (Some (bench_state bench))
opened_ready desc model bench adapters runs opened =
    record { kinds = sym runs.same_kinds ∙ ap (λ l. l.kinds) (sym opened.layout); device = opened.device }

-- ---- results

pub same_error : {X : Type 0} {r : Result X Status} {a b : Status} → r ≡ Err a → r ≡ Err b → a ≡ b
same_error is other = cc

pub no_error : {X : Type 0} {r : Result X Status} {x : X} {a : Status} → r ≡ Ok x → r ≢ Err a
no_error is other = cc
