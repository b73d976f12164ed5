-- What `weave` writes of a session, how it ends, and the adapters' standings afterwards.
use Rattle.std.specs.Prelude.{ℕ, List, [], Result, Ok, Err}
use Rattle.rl_bus.specs.Standing.{Standing, kinds_of}
use Rattle.rl_desc.specs.Data.{DescData}
use Rattle.rl_log.specs.Recording.{no_counts}
use Rattle.rl_report.specs.Lines.{lines_of, whole_lines}
use Rattle.rl_report.specs.Opening.{separator_at}
use Rattle.rl_session.specs.Judged.{Judged, refused, ending_judged, first_world}
use Rattle.rl_session.specs.Session.{behind, opening_of, script_of}
use Rattle.rl_weave_log.specs.WeaveLog.{closed_text, counting, weave_log}

-- a script, from the first world of a description on
abbrev pub woven_script_judged : (n : ℕ) → DescData → (script : List ℕ) → List Standing → Judged
woven_script_judged n desc script adapters = ending_judged (weave_log n (first_world desc adapters) (lines_of script))

abbrev pub woven_by : (n : ℕ) → Result DescData (List ℕ) → List ℕ → List Standing → Judged
woven_by n (Ok desc) bytes adapters = ending_judged (weave_log n (first_world desc adapters) (script_of bytes))
woven_by n (Err line) bytes adapters = refused line adapters

-- the log of a session whose draws begin at n
abbrev pub woven_judged : (n : ℕ) → List ℕ → List Standing → Judged
woven_judged n bytes adapters = woven_by n (opening_of bytes (kinds_of adapters)) bytes adapters

-- ---- a source that failed

-- the log of the groups behind the separator that a blank line among the bytes taken ends
abbrev pub woven_taken_by : (n : ℕ) → Result DescData (List ℕ) → (taken : List ℕ) → List Standing → List ℕ
woven_taken_by n (Ok desc) taken adapters =
    closed_text 1 (counting n no_counts (first_world desc adapters)) (whole_lines (behind (separator_at taken) taken))
woven_taken_by n (Err line) taken adapters = []

abbrev pub woven_taken_text : (n : ℕ) → (taken : List ℕ) → List Standing → List ℕ
woven_taken_text n taken adapters = woven_taken_by n (opening_of taken (kinds_of adapters)) taken adapters
