-- What a line asks for, its events over any device, and their text.
use Rattle.std.specs.Prelude.{◌≡◌, ℕ, ◌+◌, List, [], ◌∷◌, ◌++◌, length, Option, Some, option_map, map, Result, Ok, Err}
use Rattle.std.specs.Option.{ok_or}
use Rattle.rl_access.specs.declared.event.Event.{Event}
use Rattle.rl_access.specs.declared.event.Op.{Op}
use Rattle.rl_access.specs.declared.event.Op.TheVariants as op
use Rattle.rl_access.specs.declared.event.Refused.{Refused}
use Rattle.rl_access.specs.Call.{Scene, IsRefused}
use Rattle.rl_access.specs.HandsOver.{Told}
use Rattle.rl_access.specs.Model.{ModelData}
use Rattle.rl_access.specs.Rules.{Grant, grant}
use Rattle.rl_access.specs.Runs.{RunsThrough, RunsInto, write_grant, writes_of, reads_of, no_tally, counted_all}
use Rattle.rl_report.specs.Pieces.{joined}
use Rattle.rl_script.specs.declared.line.Line.{Line}
use Rattle.rl_script.specs.declared.line.Line.TheVariants as line
use Rattle.rl_script.specs.declared.line.Sequence.{Sequence}
use Rattle.rl_seq.specs.Plan.{Plan, stop, step, Runs, Breaks}
use Rattle.rl_log.specs.declared.refusal.LineRefusal.{LineRefusal}
use Rattle.rl_log.specs.declared.refusal.LineRefusal.TheVariants.{NoSuchName}
use Rattle.rl_log.specs.Entry.{plan_of, begin_text, closed_text, with_both}
use Rattle.rl_log.specs.Named.{mem_named, map_asked, block_asked, op_named}
use Rattle.rl_log.specs.Recording.{events_text}

-- ---- what a line asks for

pub data Work : Type 0 where
  -- operations one after another
  planned : Plan → Work
  -- the same between the two lines of a sequence
  sequence : Sequence → (over : Option (List ℕ)) → Plan → Work
  -- operations up to the first bus error, unless the burst is refused as a whole
  burst : Grant → Op → List Op → Work

abbrev pub single : Op → Work
single op = planned (step op stop)

-- values to consecutive locations of a memory
abbrev pub burst_write_work : ModelData → (mem : ℕ) → (map : Option ℕ) → (first : ℕ) → (values : List ℕ) → Work
burst_write_work m mem map first values =
    burst (write_grant m mem map first values) (op.BurstWrite mem map first (length values))
    (writes_of mem map first values)

-- so many consecutive locations
abbrev pub burst_read_work : ModelData → (mem : ℕ) → (map : Option ℕ) → (first count : ℕ) → Work
burst_read_work m mem map first count =
    let asked = op.BurstRead mem map first count in burst (grant m asked) asked (reads_of mem map first count)

-- none where a name isn't there
abbrev pub work_of : ModelData → Line → Option Work
work_of m line.Blank = Some (planned stop)
work_of m (line.BurstWrite mem first values map) =
    with_both (mem_named m.chip mem) (map_asked m.layout map)
    (λ i t. burst_write_work m i t first values)
work_of m (line.BurstRead mem first count map) =
    with_both (mem_named m.chip mem) (map_asked m.layout map)
    (λ i t. burst_read_work m i t first count)
work_of m (line.Seq which over) =
    option_map (λ block. sequence which over (plan_of which m block)) (block_asked m.chip over)
work_of m line = option_map single (op_named m line)

-- of a line that is one operation
abbrev pub one_op : ModelData → Line → Result Work LineRefusal
one_op m line = ok_or (option_map single (op_named m line)) NoSuchName

-- what a line asks for, or why it is refused
abbrev pub asked : ModelData → Result Line LineRefusal → Result Work LineRefusal
asked m (Ok line) = ok_or (work_of m line) NoSuchName
asked m (Err why) = Err why

-- ---- its events

-- the one event of a burst that is refused as a whole
pub record IsRefusedAlone (s new : Scene) (op : Op) (why : Refused) (told : List Told) : Type 0 where
  pub event : Event
  pub refused : IsRefused s new op why event
  pub told_is : told ≡ record { model = s.model; event = event } ∷ []

-- these are its events, each performed from where the one before ended
abbrev pub Does : Work → Scene → List Told → Scene → Type 0
Does (planned p) s told new = Runs p s told new
Does (sequence which over p) s told new = Runs p s told new
Does (burst (Ok place) op ops) s told new = RunsThrough s ops told new
Does (burst (Err why) op ops) s told new = IsRefusedAlone s new op why told

-- these are the first of its events, and it broke off at the last of them
abbrev pub BreaksOff : Work → Scene → List Told → Scene → Type 0
BreaksOff (planned p) s told new = Breaks p s told new
BreaksOff (sequence which over p) s told new = Breaks p s told new
BreaksOff (burst (Ok place) op ops) s told new = RunsInto s ops told new
BreaksOff (burst (Err why) op ops) s told new = IsRefusedAlone s new op why told

-- the text of all its events
abbrev pub text_of : Work → List Told → List ℕ
text_of (planned p) told = events_text told
text_of (sequence which over p) told =
    joined (begin_text which over ∷ events_text told ∷ closed_text which over (counted_all no_tally told) ∷ [])
text_of (burst granted op ops) told = events_text told

-- and of the first of them
abbrev pub begun_text : Work → List Told → List ℕ
begun_text (planned p) told = events_text told
begun_text (sequence which over p) told = begin_text which over ++ events_text told
begun_text (burst granted op ops) told = events_text told
