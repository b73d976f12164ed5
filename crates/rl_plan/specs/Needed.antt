-- The registers and memories of which a script needs the lines: put after the script, these find a flaw of it first.
use Rattle.std.specs.Prelude.{ℕ, ◌==◌, Bool, false, List, [], ◌∷◌, map, filter, flat_map, slice_get, Option, Some, None}
use Rattle.std.specs.List.{list_any, range_with_len}
use Rattle.std.specs.Option.{option_map_or}
use Rattle.rl_model.specs.declared.rows.Item.{Item}
use Rattle.rl_model.specs.declared.rows.Item.TheVariants as item
use Rattle.rl_model.specs.declared.rows.RegRow.{RegRow}
use Rattle.rl_model.specs.Rows.{ChipData}
use Rattle.rl_desc.specs.Data.{DescData}
use Rattle.rl_session.specs.Judged.{first_world}
use Rattle.rl_grade.specs.declared.grade.Graded.{Graded}
use Rattle.rl_grade.specs.declared.job.Task.{Task}
use Rattle.rl_grade.specs.declared.place.Place.{Place}
use Rattle.rl_grade.specs.declared.place.Place.TheVariants.{OfItem, OfField}
use Rattle.rl_grade.specs.declared.seen.Seen.{Seen}
use Rattle.rl_grade.specs.Adapters.{fresh_standings}
use Rattle.rl_grade.specs.Find.{all_seen}
use Rattle.rl_grade.specs.Heard.{Heard}
use Rattle.rl_grade.specs.Job.{heard_by}
use Rattle.rl_grade.specs.Parts.{part}
use Rattle.rl_grade.specs.Place.{flaws_at}
use Rattle.rl_grade.specs.Record.{items_from}
use Rattle.rl_grade.specs.Share.{grades_of}
use Rattle.rl_plan.specs.declared.asked.Asked.{Asked}
use Rattle.rl_plan.specs.Behind.{added, behind}
use Rattle.rl_plan.specs.Text.{items_of}

-- ---- the places at which the flaws of an item are told

abbrev pub fields_of : Option RegRow → List Place
fields_of None = []
fields_of (Some row) = map OfField (range_with_len row.first row.count)

abbrev pub own_fields : ChipData → Item → List Place
own_fields c (item.Reg reg) = fields_of (slice_get c.regs reg)
own_fields c (item.Mem mem) = []

-- its own, and those of a register's fields
abbrev pub places_of : ChipData → Item → List Place
places_of c i = OfItem i ∷ own_fields c i

-- those of all items
abbrev pub all_places : ChipData → List Place
all_places c = flat_map (places_of c) (items_of c)

-- ---- a flaw that is found first in an added line

-- the events of tasks without a flaw, from the first state on, over adapters that have sent nothing
abbrev pub heard_of : DescData → List Task → List Heard
heard_of d tasks = heard_by (first_world d fresh_standings) tasks

-- the first event that shows it is none of the script
abbrev pub is_first_in_added : Graded → Bool
is_first_in_added g = option_map_or (λ f. f.line == added) g.found false

-- so it is of a flaw of the place, by what these tasks show without one
abbrev pub finds_at : DescData → List Task → (shown : List Seen) → (items : ℕ) → Place → Bool
finds_at d tasks shown items place =
    list_any is_first_in_added (grades_of d tasks shown (part 1 1) 0 (flaws_at d items place))

abbrev pub finds_by : DescData → List Task → List Heard → List Place → Bool
finds_by d tasks heard places = list_any (finds_at d tasks (all_seen heard) (items_from 0 heard)) places

-- so it is of a flaw of some of these places
abbrev pub finds_in : DescData → List Task → List Place → Bool
finds_in d tasks places = finds_by d tasks (heard_of d tasks) places

-- ---- what a script needs

-- the lines of the item, put behind the script, find a flaw of it first
unfoldable pub is_needed : DescData → Asked → (script : List Task) → Item → Bool
is_needed d asked script i = finds_in d (behind d asked script (i ∷ [])) (places_of d.chip i)

-- those of a description, in order
abbrev pub needed : DescData → Asked → (script : List Task) → List Item
needed d asked script = filter (is_needed d asked script) (items_of d.chip)
