-- Which items a script needs the lines of, asked one after another.
use Rattle.std.proofs.Common.{◌≡◌, ℕ, Bool, List, [], ◌∷◌, Result, Ok, Err, IfOk, ap, ◌∙◌}
use Rattle.std.specs.List.{list_any}
use Rattle.rl_model.specs.declared.rows.Item.{Item}
use Rattle.rl_desc.specs.Data.{DescData}
use Rattle.rl_grade.specs.declared.job.Task.{Task}
use Rattle.rl_grade.specs.declared.place.Place.{Place}
use Rattle.rl_grade.specs.declared.seen.Seen.{Seen}
use Rattle.rl_grade.specs.Find.{all_seen}
use Rattle.rl_grade.specs.Record.{items_from}
use Rattle.rl_plan.specs.declared.asked.Asked.{Asked}
use Rattle.rl_plan.specs.Behind.{behind}
use Rattle.rl_plan.specs.Needed.{finds_at, finds_in, heard_of, is_needed, places_of}

-- ---- by what the tasks show

pub found_in : {T E : Type 0} (finds : T → Bool) (r : Result T E) (d again : DescData) (tasks : List Task) (seen : List Seen) (items : ℕ)
    (places : List Place) → again ≡ d → seen ≡ all_seen (heard_of d tasks) → items ≡ items_from 0 (heard_of d tasks)
    → IfOk r (λ a. finds a ≡ list_any (finds_at again tasks seen items) places) → IfOk r (λ a. finds a ≡ finds_in d tasks places)
found_in finds (Ok a) d again tasks seen items places same shown counted h =
    h ∙ ap (λ d. list_any (finds_at d tasks seen items) places) same
    ∙ ap (λ s. list_any (finds_at d tasks s items) places) shown
    ∙ ap (λ n. list_any (finds_at d tasks (all_seen (heard_of d tasks)) n) places) counted
found_in finds (Err e) d again tasks seen items places same shown counted h = tt

-- ---- an item

pub needed_by : (finds : Bool) (d again : DescData) (asked : Asked) (script tasks : List Task) (i : Item) (places : List Place)
    → again ≡ d → tasks ≡ behind d asked script (i ∷ []) → places ≡ places_of d.chip i
    → finds ≡ finds_in again tasks places → finds ≡ is_needed d asked script i
unfolding is_needed
needed_by finds d again asked script tasks i places same put own h =
    h ∙ ap (λ d. finds_in d tasks places) same ∙ ap (λ ts. finds_in d ts places) put
    ∙ ap (λ ps. finds_in d (behind d asked script (i ∷ [])) ps) own
