-- Flaws of a place in words.
use Rattle.std.specs.Prelude.{ℕ, ◌==◌, ◌&&◌, not, Bool, if◌then◌else◌, List, [], ◌∷◌, ◌++◌, length, map, filter, take, slice_index_or, slice_get, unwrap_or, codes}
use Rattle.std.specs.List.{list_any, range_with_len}
use Rattle.rl_model.specs.Rows.{ChipData}
use Rattle.rl_map.specs.Layout.{LayoutData, map_at, port_at}
use Rattle.rl_flaw.specs.declared.flaw.Flaw.{Flaw}
use Rattle.rl_flaw.specs.declared.flaw.Flaw.TheVariants.{Stuck, OtherReset, OtherPolicy, Deaf, ErrorRange, ErrorNth}
use Rattle.rl_report.specs.Pieces.{joined}
use Rattle.rl_grade_report.specs.Counts.{led}
use Rattle.rl_grade_report.specs.Kinds.{is_kind, kind_of}
use Rattle.rl_grade_report.specs.Members.{members_text}

-- what tells the sorts of one kind apart: the value of a bit that is stuck, the kind of reset, the port of an address
abbrev pub detail_of : Flaw → ℕ
detail_of (Stuck field bit value) = if value then 1 else 0
detail_of (OtherReset field kind value) = kind
detail_of (ErrorRange port from to) = port
detail_of (OtherPolicy field policy) = 0
detail_of (Deaf item) = 0
detail_of (ErrorNth nth) = 0

abbrev pub is_same_sort : Flaw → Flaw → Bool
is_same_sort one other = is_kind (kind_of one) other && detail_of one == detail_of other

-- the name of a port's root map
abbrev pub root_name : LayoutData → ℕ → List ℕ
root_name l port = (map_at l (port_at l port).map).name

abbrev pub kind_text : ChipData → ℕ → List ℕ
kind_text c kind = unwrap_or (slice_get c.kinds kind) []

abbrev pub sort_text : ChipData → LayoutData → Flaw → List ℕ
sort_text c l (Stuck field bit value) = if value then codes "stuck at 1 bit" else codes "stuck at 0 bit"
sort_text c l (OtherReset field kind value) = joined (codes "reset " ∷ kind_text c kind ∷ codes " bit" ∷ [])
sort_text c l (ErrorRange port from to) = joined (codes "address " ∷ root_name l port ∷ [])
sort_text c l (OtherPolicy field policy) = codes "policy"
sort_text c l (Deaf item) = codes "deaf"
sort_text c l (ErrorNth nth) = codes "item"

-- the flaws of the sort of one of them
abbrev pub group_text : ChipData → LayoutData → List Flaw → (one : Flaw) → List ℕ
group_text c l flaws one = sort_text c l one ++ members_text c one (filter (is_same_sort one) flaws)

abbrev pub flaw_at : List Flaw → ℕ → Flaw
flaw_at flaws place = slice_index_or flaws place (ErrorNth 0)

-- no flaw before a place is of the sort of the one there
abbrev pub is_first : List Flaw → ℕ → Bool
is_first flaws place = not (list_any (is_same_sort (flaw_at flaws place)) (take place flaws))

-- the groups that begin at the first so many places
abbrev pub groups_parts : ChipData → LayoutData → List Flaw → (places : ℕ) → List (List ℕ)
groups_parts c l flaws places =
    map (λ place. group_text c l flaws (flaw_at flaws place)) (filter (is_first flaws) (range_with_len 0 places))

-- behind what leads to the first
abbrev pub groups_text : (lead : List ℕ) → ChipData → LayoutData → List Flaw → List ℕ
groups_text lead c l flaws = led lead (groups_parts c l flaws (length flaws))
