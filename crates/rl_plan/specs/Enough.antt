-- The registers and memories whose lines are added to a script, and that these lines find what those of all items find.
use Rattle.std.specs.Prelude.{◌≡◌, ◌&&◌, Bool, true, if◌then◌else◌, List, flat_map, Contains, is_none, is_some}
use Rattle.std.specs.List.{list_any}
use Rattle.rl_model.specs.declared.rows.Item.{Item}
use Rattle.rl_flaw.specs.declared.flaw.Flaw.{Flaw}
use Rattle.rl_desc.specs.Data.{DescData}
use Rattle.rl_grade.specs.declared.grade.Graded.{Graded}
use Rattle.rl_grade.specs.declared.job.Task.{Task}
use Rattle.rl_grade.specs.Find.{all_seen}
use Rattle.rl_grade.specs.Place.{flaws_at}
use Rattle.rl_grade.specs.Share.{graded_by}
use Rattle.rl_plan.specs.declared.asked.Asked.{Asked}
use Rattle.rl_plan.specs.Behind.{behind}
use Rattle.rl_plan.specs.Needed.{all_places, heard_of, needed}
use Rattle.rl_plan.specs.Text.{items_of}

-- ---- flaws

-- each single flaw of a register, a memory or a field; how many bus items are sent is of no account for these
unfoldable pub all_flaws : DescData → List Flaw
all_flaws d = flat_map (flaws_at d 0) (all_places d.chip)

-- a flaw with its answer by these tasks, beside what they show without it
abbrev pub answer : DescData → List Task → Flaw → Graded
answer d tasks flaw = graded_by d tasks (all_seen (heard_of d tasks)) flaw

abbrev pub is_found : DescData → List Task → Flaw → Bool
is_found d tasks flaw = is_some (answer d tasks flaw).found

-- ---- the lines of some items

-- the second answer is a find, and the first is none
abbrev pub is_lost : Graded → Graded → Bool
is_lost by_few by_all = is_some by_all.found && is_none by_few.found

-- the second tasks find the flaw, and the first don't
abbrev pub is_missed : DescData → (few all : List Task) → Flaw → Bool
is_missed d few all flaw = is_lost (answer d few flaw) (answer d all flaw)

-- after the script these lines miss a flaw which the lines of all items find there
unfoldable pub miss : DescData → Asked → (script : List Task) → List Item → Bool
miss d asked script few =
    list_any (is_missed d (behind d asked script few) (behind d asked script (items_of d.chip))) (all_flaws d)

-- the items whose lines a script needs; all items where the lines of these miss something
abbrev pub added_items : DescData → Asked → (script : List Task) → List Item
added_items d asked script =
    if miss d asked script (needed d asked script) then items_of d.chip else needed d asked script

-- ---- what holds of them

-- A flaw that the lines of all items find after a script is found there by the lines that are added.
abbrev pub AddedLinesAreEnough : Type 0
AddedLinesAreEnough =
    (d : DescData) (asked : Asked) (script : List Task) (flaw : Flaw) → Contains (all_flaws d) flaw
    → is_found d (behind d asked script (items_of d.chip)) flaw ≡ true
    → is_found d (behind d asked script (added_items d asked script)) flaw ≡ true
