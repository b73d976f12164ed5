-- What was told of a script on the device model, against what is judged of it.
use Rattle.std.proofs.Common.{◌≡◌, ℕ, List, Option, Some, None, IfSome, refl, subst}
use Rattle.rl_bus.specs.Standing.{Standing}
use Rattle.rl_bus.specs.State.{State}
use Rattle.rl_access.specs.Model.{ModelData}
use Rattle.rl_access.specs.World.{IsAt}
use Rattle.rl_desc.specs.Data.{DescData}
use Rattle.rl_report.specs.Lines.{lines_of}
use Rattle.rl_log.specs.declared.counts.Counts.{Counts}
use Rattle.rl_log.specs.declared.status.Status.{Status}
use Rattle.rl_log.specs.Log.{Ending, script_from}
use Rattle.rl_log.specs.Recording.{no_counts}
use Rattle.rl_play.specs.Played.{coming, Breaks, EndsAs, LinesBreak}
use Rattle.rl_play.proofs.FaultLemmas.{breaks_at}
use Rattle.rl_session.specs.Judged.{ending_judged, first_ending, first_world, script_judged}
use Rattle.rl_session_run.specs.Output.{IsJudged, run_lines}
use Rattle.rl_session_run.proofs.JudgedLemmas.{from_first}

-- a run that ended so
pub ends_judged : (e : Ending) (status : Status) (old new : Option (List ℕ)) (last : Counts) (m : ModelData) (now : List Standing)
    (after : Option State) → EndsAs e status old new last m now after → IsJudged (ending_judged e) status old new now
ends_judged e status old new last m now after ends = record {
  tells = record { whole = λ c. let o = ends.whole c in (o.status_is, o.text); part = ends.part };
  adapters_are = λ c. (ends.whole c).after.adapters_are;
}

pub session_told : (input : Option (List ℕ)) (desc : DescData) (adapters now : List Standing) (m n : ModelData)
    (st : State) (after : Option State) (counts last : Counts) (status : Status) (old new : Option (List ℕ))
    → counts ≡ no_counts → IsAt m adapters (Some st) (first_world desc adapters)
    → IfSome (coming 1 counts m adapters (Some st) input) (λ e. EndsAs e status old new last n now after)
    → IfSome input (λ bytes. IsJudged (script_judged desc bytes adapters) status old new now)
session_told None desc adapters now m n st after counts last status old new none here h = tt
session_told (Some bytes) desc adapters now m n st after counts last status old new none here h =
    ends_judged (first_ending desc bytes adapters) status old new last n now after
    (subst (λ e. EndsAs e status old new last n now after)
    (from_first (λ c w. script_from 1 c w (lines_of bytes)) desc adapters m st counts none here) h)

pub breaks_first : (input : Option (List ℕ)) (desc : DescData) (adapters : List Standing) (m : ModelData) (st : State)
    (left old new : Option (List ℕ)) → IsAt m adapters (Some st) (first_world desc adapters)
    → Breaks 1 m adapters (Some st) input left old new
    → IfSome input (λ bytes. LinesBreak (run_lines desc adapters) bytes left old new)
breaks_first None desc adapters m st left old new here h = tt
breaks_first (Some bytes) desc adapters m st left old new here h =
    breaks_at 1 m adapters (Some st) (first_world desc adapters) (Some bytes) left old new bytes here refl h
