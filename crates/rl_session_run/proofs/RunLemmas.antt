-- A script that wasn't run, since memory ran out.
use Rattle.std.proofs.Common.{ℕ, List, refl}
use Rattle.std.proofs.KnownBytes.{Keeps-refl}
use Rattle.rl_bus.specs.Standing.{Standing}
use Rattle.rl_log.specs.declared.status.Status.TheVariants.{Memory}
use Rattle.rl_session_run.proofs.JudgedLemmas.{all_early}
use Rattle.rl_report.specs.Reading.{Reading, input_of}
use Rattle.rl_report.specs.declared.sink.Sink.{Ghosts as Sink}
use Rattle.rl_report.specs.declared.source.Source.{Ghosts as Source}
use Rattle.rl_session_run.specs.Running.{RunsScript}
use Rattle.rl_session_run.proofs.LeavesLemmas.{memory_leaves}
use Rattle.rl_session.specs.Judged.{Judged}

module _ {S K : Type 0} (source : Source S) (sink : Sink K) (is_out : K → Type 0) (judge : List ℕ → List Standing → Judged)
    (log_of : List Standing → List (List ℕ) → List ℕ) where
  pub runs_memory : (lines : Reading) (s : S) (k : K) (adapters : List Standing)
      → RunsScript source sink is_out judge log_of lines s s k k adapters adapters Memory
  runs_memory lines s k adapters =
      let text = sink.written k in
      record {
        tells = all_early (input_of lines (source.left s)) (λ bytes. judge bytes adapters) Memory text text adapters refl (Keeps-refl text);
        at_fault = λ is. absurd (cc);
        unended = λ is. absurd (cc);
        leaves = memory_leaves sink (source.faults s) k;
      }
