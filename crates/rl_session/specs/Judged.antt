-- The judged log of a session, and what `map` and `soak` write: the text, the status, and the adapters' standings
-- afterwards.
use Rattle.std.specs.Prelude.{ℕ, List, [], Result, Ok, Err, length, replicate}
use Rattle.rl_bus.specs.Standing.{Standing, kinds_of}
use Rattle.rl_desc.specs.Data.{DescData}
use Rattle.rl_report.specs.Lines.{whole_lines, lines_of}
use Rattle.rl_report.specs.Opening.{separator_at}
use Rattle.rl_log.specs.declared.status.Status.{Status}
use Rattle.rl_log.specs.declared.status.Status.TheVariants.{Refused}
use Rattle.rl_log.specs.Events.{Happened, events_from}
use Rattle.rl_log.specs.Log.{Ending, lines_text, script_from}
use Rattle.rl_session.specs.Session.{behind, opening_of, map_text, map_status, script_of}
use Rattle.rl_session.specs.Soak.{mirror_sum, soak_line_text, soak_text}
use Rattle.rl_access.specs.Gathering.{no_words}
use Rattle.rl_flaw.specs.Flaws.{first_of}
use Rattle.rl_mirror.specs.Prediction.{fresh}
use Rattle.rl_log.specs.Recording.{no_counts}
use Rattle.rl_access.specs.World.{World}

-- ---- the first state, and a script from it on

-- a model that was just built, and a device after a hard reset, with exactly the flaws that are declared
abbrev pub first_world : DescData → List Standing → World
first_world desc adapters = record {
  model = record {
    chip = desc.chip;
    layout = desc.layout;
    mirror = fresh desc.chip;
    gathered = replicate (length desc.layout.places) no_words;
  };
  adapters = adapters;
  device = first_of desc.chip desc.layout desc.flaws;
}

-- a script, from the first world of a description on
abbrev pub first_ending : DescData → (script : List ℕ) → List Standing → Ending
first_ending desc script adapters = script_from 1 no_counts (first_world desc adapters) (lines_of script)

-- the script of a session that opens with this description
abbrev pub script_ending : DescData → List ℕ → List Standing → Ending
script_ending desc bytes adapters = script_from 1 no_counts (first_world desc adapters) (script_of bytes)

-- ---- what is judged

pub record Judged : Type 0 where
  pub text : List ℕ
  pub status : Status
  pub adapters : List Standing

-- a session that is refused before its script
abbrev pub refused : List ℕ → List Standing → Judged
refused line adapters = record { text = line; status = Refused; adapters = adapters }

-- ---- `run`

abbrev pub ending_judged : Ending → Judged
ending_judged e = record { text = e.text; status = e.status; adapters = e.world.adapters }

-- a script, from the first world of a description on
abbrev pub script_judged : DescData → (script : List ℕ) → List Standing → Judged
script_judged desc script adapters = ending_judged (first_ending desc script adapters)

abbrev pub judged_by : Result DescData (List ℕ) → List ℕ → List Standing → Judged
judged_by (Ok desc) bytes adapters = ending_judged (script_ending desc bytes adapters)
judged_by (Err line) bytes adapters = refused line adapters

-- the judged log of a session
abbrev pub judged : List ℕ → List Standing → Judged
judged bytes adapters = judged_by (opening_of bytes (kinds_of adapters)) bytes adapters

-- ---- the events of `run`

abbrev pub events_by : Result DescData (List ℕ) → List ℕ → List Standing → List Happened
events_by (Ok desc) bytes adapters = events_from 1 (first_world desc adapters) (script_of bytes)
events_by (Err line) bytes adapters = []

-- each event of the judged log, between the models before it and after it
abbrev pub judged_events : List ℕ → List Standing → List Happened
judged_events bytes adapters = events_by (opening_of bytes (kinds_of adapters)) bytes adapters

-- ---- `map`

abbrev pub map_judged : List ℕ → List Standing → Judged
map_judged bytes adapters =
    let opening = opening_of bytes (kinds_of adapters) in
    record { text = map_text opening; status = map_status opening; adapters = adapters }

-- ---- `soak`

abbrev pub soak_ending : ℕ → Ending → Judged
soak_ending n e = record {
  text = soak_line_text n e.counts (mirror_sum 0 e.world.model.mirror.mirrored);
  status = e.status;
  adapters = e.world.adapters;
}

-- a script, from the first world of a description on
abbrev pub soak_script_judged : ℕ → DescData → (script : List ℕ) → List Standing → Judged
soak_script_judged n desc script adapters = soak_ending n (first_ending desc script adapters)

abbrev pub soak_by : ℕ → Result DescData (List ℕ) → List Standing → Judged
soak_by n (Ok desc) adapters = soak_ending n (script_ending desc (soak_text n) adapters)
soak_by n (Err line) adapters = refused line adapters

-- the line of the session that is made from a number
abbrev pub soak_judged : ℕ → List Standing → Judged
soak_judged n adapters = soak_by n (opening_of (soak_text n) (kinds_of adapters)) adapters

-- ---- a source that failed

-- the log of the lines behind the separator whose 10 is among the bytes taken, with no last line
abbrev pub taken_by : Result DescData (List ℕ) → (taken : List ℕ) → List Standing → List ℕ
taken_by (Ok desc) taken adapters =
    lines_text 1 (first_world desc adapters) (whole_lines (behind (separator_at taken) taken))
taken_by (Err line) taken adapters = []

abbrev pub taken_text : (taken : List ℕ) → List Standing → List ℕ
taken_text taken adapters = taken_by (opening_of taken (kinds_of adapters)) taken adapters
