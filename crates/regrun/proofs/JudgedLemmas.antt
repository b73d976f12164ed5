-- What was told of a session, against what is judged of it.
use Rattle.std.proofs.Common.{◌≡◌, ℕ, List, Option, Some, None, IfSome, Result, Ok, refl, sym, subst}
use Rattle.std.specs.Io.KnownBytes.{Keeps}
use Rattle.rl_bus.specs.Standing.{Standing, kinds_of}
use Rattle.rl_bus.specs.State.{State}
use Rattle.rl_access.specs.Model.{ModelData}
use Rattle.rl_access.specs.World.{IsAt}
use Rattle.rl_desc.specs.Data.{DescData}
use Rattle.rl_map.specs.LayoutText.{layout_text}
use Rattle.rl_report.specs.Lines.{lines_of}
use Rattle.rl_log.specs.declared.counts.Counts.{Counts}
use Rattle.rl_log.specs.declared.status.Status.{Status}
use Rattle.rl_log.specs.declared.status.Status.TheVariants.{Passed}
use Rattle.rl_log.specs.Recording.{no_counts}
use Rattle.rl_log.specs.Telling.{Tells}
use Rattle.rl_log.proofs.TellingLemmas.{tells_later}
use Rattle.rl_play.specs.Moment.{moment}
use Rattle.rl_play.specs.Played.{EndsAs}
use Rattle.rl_session.specs.Judged.{Judged, first_world, map_judged}
use Rattle.rl_session.specs.Session.{map_status, map_text, opening_of}
use Rattle.rl_session_run.specs.Output.{IsJudged}
use Rattle.rl_session_run.specs.Telling.{Stops}
use Rattle.rl_session_run.proofs.JudgedLemmas.{from_first, told_stops}
use Rattle.rl_session_run.proofs.PlayedLemmas.{ends_judged}
use Rattle.rl_weave_log.specs.Judged.{woven_script_judged}
use Rattle.rl_weave_log.specs.Turns.{WeavesScript}
use Rattle.rl_weave_log.specs.WeaveLog.{counting, weave_log, woven_from}

-- ---- `map`

abbrev map_by : List Standing → Result DescData (List ℕ) → Judged
map_by adapters o = record { text = map_text o; status = map_status o; adapters = adapters }

pub maps_stopped : (left : Option (List ℕ)) (adapters : List Standing) (status : Status) (old new : Option (List ℕ))
    → IfSome left (λ bytes. Stops (opening_of bytes (kinds_of adapters)) status old new)
    → IfSome left (λ bytes. IsJudged (map_judged bytes adapters) status old new adapters)
maps_stopped None adapters status old new s = tt
maps_stopped (Some bytes) adapters status old new s =
    told_stops (map_by adapters) (opening_of bytes (kinds_of adapters)) status old new adapters (λ line. refl) s

pub maps_opened : (left : Option (List ℕ)) (adapters : List Standing) (desc : DescData) (status : Status)
    (old mid new : Option (List ℕ)) → IfSome left (λ bytes. opening_of bytes (kinds_of adapters) ≡ Ok desc) → Keeps old mid
    → Tells status Passed mid new (layout_text desc.chip desc.layout) → IfSome left
    (λ bytes. IsJudged (map_judged bytes adapters) status old new adapters)
maps_opened None adapters desc status old mid new is same t = tt
maps_opened (Some bytes) adapters desc status old mid new is same t =
    subst (λ o. IsJudged (map_by adapters o) status old new adapters) (sym is)
    (record {
      tells = tells_later status Passed old mid new
          (layout_text desc.chip desc.layout) same t;
      adapters_are = λ c. refl;
    })

-- ---- `weave`

pub weave_told : (n : ℕ) (input : Option (List ℕ)) (desc : DescData) (adapters now : List Standing) (m k : ModelData)
    (st : State) (after : Option State) (counts last : Counts) (status : Status) (old new : Option (List ℕ))
    → counts ≡ no_counts → IsAt m adapters (Some st) (first_world desc adapters)
    → WeavesScript n (moment m adapters (Some st) old counts) input (moment k now after new last) status
    → IfSome input (λ bytes. IsJudged (woven_script_judged n desc bytes adapters) status old new now)
weave_told n None desc adapters now m k st after counts last status old new none here h = tt
weave_told n (Some bytes) desc adapters now m k st after counts last status old new none here h =
    ends_judged (weave_log n (first_world desc adapters) (lines_of bytes)) status old new last k now after
    (subst (λ e. EndsAs e status old new last k now after)
    (from_first (λ c w. woven_from 1 (counting n c w) (lines_of bytes)) desc adapters m st counts none here) h)
