-- What is written and counted of events.
use Rattle.std.specs.Prelude.{ℕ, List, [], ◌∷◌, ◌++◌, count_ones, if◌then◌else◌}
use Rattle.rl_access.specs.declared.event.Event.{Event}
use Rattle.rl_access.specs.HandsOver.{Told}
use Rattle.rl_access.specs.Tally.{more, is_bus_error}
use Rattle.rl_report.specs.Event.{event_text}
use Rattle.rl_log.specs.declared.counts.Counts.{Counts}

-- ---- counts

abbrev pub no_counts : Counts
no_counts = record { events = 0; differences = 0; errors = 0 }

-- one event more, its differing fields and its bus error
abbrev pub with_event : Counts → Event → Counts
with_event counts e = record {
  events = more counts.events 1;
  differences = more counts.differences (count_ones e.differ);
  errors = if is_bus_error e.end then more counts.errors 1 else counts.errors;
}

abbrev pub with_events : Counts → List Told → Counts
with_events counts [] = counts
with_events counts (t ∷ told) = with_events (with_event counts t.event) told

-- ---- the text of events

abbrev pub told_text : Told → List ℕ
told_text t = event_text t.model t.event

-- in order
abbrev pub events_text : List Told → List ℕ
events_text [] = []
events_text (t ∷ told) = told_text t ++ events_text told
