-- The events of a session in its dump.
use Rattle.std.specs.Prelude.{◌≡◌, ℕ, ◌<◌, ◌-◌, ◌^◌, List, [], ◌∷◌, ◌++◌, true}
use Rattle.rl_map.specs.Layout.{LayoutData}
use Rattle.rl_access.specs.declared.trace.TraceItem.{TraceItem}
use Rattle.rl_access.specs.HandsOver.{Told}
use Rattle.rl_report.specs.Event.{event_line}
use Rattle.rl_vcd.specs.Dump.{header_text}
use Rattle.rl_vcd.specs.Items.{buses_of, cycle_after, is_apb, items_text}
use Rattle.rl_vcd.specs.Label.{label_of}

-- ---- the text

-- the transfers of an event from clock cycle `n` on, each with the event's line beside it, and the cycle behind them
abbrev pub event_drawn : Told → (n : ℕ) → List ℕ
event_drawn t n = items_text t.model.layout (label_of (event_line t.model t.event)) t.event.trace n

abbrev pub cycle_behind_event : Told → (n : ℕ) → ℕ
cycle_behind_event t n = cycle_after t.model.layout t.event.trace n

-- those of events, one after another
abbrev pub events_drawn : List Told → (n : ℕ) → List ℕ
events_drawn [] n = []
events_drawn (t ∷ events) n = event_drawn t n ++ events_drawn events (cycle_behind_event t n)

abbrev pub cycle_behind_events : List Told → (n : ℕ) → ℕ
cycle_behind_events [] n = n
cycle_behind_events (t ∷ events) n = cycle_behind_events events (cycle_behind_event t n)

-- the whole dump of these events: the header of the layout's buses, and then their transfers from cycle 1 on
abbrev pub dump_text : LayoutData → List Told → List ℕ
dump_text l events = header_text (buses_of l) ++ events_drawn events 1

-- ---- where no further clock cycle can be counted

-- one of these items, of which the first goes on in cycle `n`, would begin a transfer behind cycle 2^64 - 1024
pub record RunsOut (l : LayoutData) (items : List TraceItem) (n : ℕ) : Type 0 where
  pub done : List TraceItem
  pub item : TraceItem
  pub others : List TraceItem
  pub split : done ++ item ∷ others ≡ items
  pub over_apb : is_apb l item.port ≡ true
  pub late : 2 ^ 64 - 1024 < cycle_after l done n

-- and so would an item of one of these events
pub record EventsRunOut (events : List Told) (n : ℕ) : Type 0 where
  pub done : List Told
  pub last : Told
  pub others : List Told
  pub split : done ++ last ∷ others ≡ events
  pub out : RunsOut last.model.layout last.event.trace (cycle_behind_events done n)
