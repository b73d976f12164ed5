-- What was told of a soak, against what is judged of it.
use Rattle.std.proofs.Common.{◌≡◌, ℕ, true, List, Option, Some, None, IfSome, Ok, refl, subst}
use Rattle.std.specs.Io.KnownBytes.{Keeps}
use Rattle.rl_bus.specs.Standing.{Standing, kinds_of}
use Rattle.rl_bus.specs.State.{State}
use Rattle.rl_access.specs.Model.{ModelData}
use Rattle.rl_access.specs.World.{IsAt}
use Rattle.rl_desc.specs.Data.{DescData}
use Rattle.rl_report.specs.Lines.{lines_of}
use Rattle.rl_report.specs.Opening.{separator_at}
use Rattle.rl_log.specs.declared.counts.Counts.{Counts}
use Rattle.rl_log.specs.declared.status.Status.{Status}
use Rattle.rl_log.specs.Log.{Ending, script_from}
use Rattle.rl_log.specs.Recording.{no_counts}
use Rattle.rl_log.specs.Statuses.{is_complete}
use Rattle.rl_log.specs.Telling.{Tells}
use Rattle.rl_play.specs.Played.{coming, IsPlayed}
use Rattle.rl_session.specs.Judged.{first_ending, first_world, soak_by, soak_ending, soak_judged, soak_script_judged}
use Rattle.rl_session.specs.Session.{behind, opening_of}
use Rattle.rl_session.specs.Soak.{mirror_sum, soak_line_text, soak_text}
use Rattle.rl_session_run.specs.Output.{IsJudged}
use Rattle.rl_session_run.specs.Telling.{Stops}
use Rattle.rl_session_run.proofs.JudgedLemmas.{from_first, told_opened, told_stops}

pub soaks_stopped : (n : ℕ) (adapters : List Standing) (status : Status) (old new : Option (List ℕ)) → Stops
    (opening_of (soak_text n) (kinds_of adapters)) status old new → IsJudged (soak_judged n adapters) status old new adapters
soaks_stopped n adapters status old new s =
    told_stops (λ o. soak_by n o adapters) (opening_of (soak_text n) (kinds_of adapters)) status old new adapters (λ line. refl) s

pub soaks_opened : (n : ℕ) (input : Option (List ℕ)) (adapters now : List Standing) (desc : DescData) (status : Status)
    (old mid new : Option (List ℕ)) → opening_of (soak_text n) (kinds_of adapters) ≡ Ok desc
    → input ≡ Some (behind (separator_at (soak_text n)) (soak_text n)) → Keeps old mid
    → IfSome input (λ bytes. IsJudged (soak_script_judged n desc bytes adapters) status mid new now)
    → IsJudged (soak_judged n adapters) status old new now
soaks_opened n input adapters now desc status old mid new is rest same t =
    let bytes = soak_text n in
    told_opened (λ o. soak_by n o adapters) (λ script. soak_script_judged n desc script adapters) (opening_of bytes (kinds_of adapters)) desc input
    (behind (separator_at bytes) bytes) status old mid new now is rest refl same t

-- a run that came to its end, and its line
soak_line : (n : ℕ) (e : Ending) (ran result : Status) (counts : Counts) (m : ModelData) (now : List Standing)
    (st : Option State) (old new : Option (List ℕ)) → IsPlayed e ran counts m now st
    → Tells result ran old new (soak_line_text n counts (mirror_sum 0 m.mirror.mirrored)) → IsJudged
    (soak_ending n e) result old new now
soak_line n e ran result counts m now st old new p t = record {
  tells = subst (λ s. Tells result s old new
      (soak_line_text n e.counts (mirror_sum 0 e.world.model.mirror.mirrored))) p.status_is
      (subst (λ c. Tells result ran old new (soak_line_text n c (mirror_sum 0 e.world.model.mirror.mirrored))) p.counts_are
      (subst (λ (m : ModelData). Tells result ran old new
      (soak_line_text n counts (mirror_sum 0 m.mirror.mirrored))) p.after.model_is t));
  adapters_are = λ c. p.after.adapters_are;
}

pub soak_told : (n : ℕ) (input : Option (List ℕ)) (desc : DescData) (adapters now : List Standing)
    (m model : ModelData) (st : State) (after : Option State) (counts last : Counts) (ran result : Status)
    (old new : Option (List ℕ))
    → counts ≡ no_counts → IsAt m adapters (Some st) (first_world desc adapters) → is_complete ran ≡ true
    → IfSome (coming 1 counts m adapters (Some st) input)
    (λ e. is_complete ran ≡ true → IsPlayed e ran last model now after)
    → Tells result ran old new (soak_line_text n last (mirror_sum 0 model.mirror.mirrored))
    → IfSome input (λ bytes. IsJudged (soak_script_judged n desc bytes adapters) result old new now)
soak_told n None desc adapters now m model st after counts last ran result old new none here whole h t = tt
soak_told n (Some bytes) desc adapters now m model st after counts last ran result old new none here whole h t =
    let e = first_ending desc bytes adapters in
    let played : IsPlayed e ran last model now after = subst
    (λ e. is_complete ran ≡ true → IsPlayed e ran last model now after)
    (from_first (λ c w. script_from 1 c w (lines_of bytes)) desc adapters m st counts none here) h whole in
    soak_line n e ran result last model now after old new played t
