-- What an event shows that is wrong, and the first event that shows more than the same event of another run.
use Rattle.std.specs.Prelude.{◌==◌, ◌&&◌, ◌||◌, not, Bool, false, bit_and, bit_xor, List, [], ◌∷◌, drop, map, Option, Some, None, if◌then◌else◌}
use Rattle.rl_access.specs.declared.event.Event.{Event}
use Rattle.rl_access.specs.Tally.{is_bus_error}
use Rattle.rl_grade.specs.declared.seen.Find.{Find}
use Rattle.rl_grade.specs.declared.seen.Seen.{Seen}
use Rattle.rl_grade.specs.Heard.{Heard}

-- the fields that it names, and whether it ended by a bus error
abbrev pub seen_of : Event → Seen
seen_of e = record { differ = e.differ; error = is_bus_error e.end }

-- what the first shows and the other doesn't
abbrev pub beside : Seen → Seen → Seen
beside a b = record { differ = bit_and a.differ (bit_xor a.differ b.differ); error = a.error && not b.error }

abbrev pub shows : Seen → Bool
shows s = not (s.differ == 0) || s.error

-- an event that isn't there shows nothing
abbrev pub front : List Seen → Seen
front [] = record { differ = 0; error = false }
front (s ∷ seen) = s

-- what an event shows beside the first of these
abbrev pub new_in : List Seen → Event → Seen
new_in base e = beside (seen_of e) (front base)

-- by the events' numbers: each beside the one of its number in the run without the flaw
unfoldable pub first_find : (base : List Seen) → List Heard → Option Find
first_find base [] = None
first_find base (h ∷ heard) =
    if shows (new_in base h.told.event)
    then Some (record { line = h.line; op = h.told.event.op; new = new_in base h.told.event })
    else first_find (drop 1 base) heard

-- what each event shows
abbrev pub all_seen : List Heard → List Seen
all_seen heard = map (λ h. seen_of h.told.event) heard
