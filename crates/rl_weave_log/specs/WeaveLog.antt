-- The log of a woven script: what it writes, how it ends, and what there is afterwards.
use Rattle.std.specs.Prelude.{ℕ, zero, suc, ◌+◌, ◌==◌, if◌then◌else◌, Bool, true, false, List, [], ◌∷◌, ◌++◌, length, get_or, Option, Some, None, Result, Ok, Err}
use Rattle.rl_bus.specs.declared.op.BusOp.{BusOp}
use Rattle.rl_bus.specs.Standing.{standing_at, moved_on}
use Rattle.rl_bus.specs.State.{state_after, answer_of}
use Rattle.rl_access.specs.declared.event.Event.{Event}
use Rattle.rl_access.specs.declared.trace.TraceItem.{TraceItem}
use Rattle.rl_access.specs.Items.{item_of, port_for, adapter_for}
use Rattle.rl_access.specs.Model.{ModelData}
use Rattle.rl_access.specs.Observed.{observing, word_ops}
use Rattle.rl_access.specs.World.{World}
use Rattle.rl_log.specs.declared.counts.Counts.{Counts}
use Rattle.rl_log.specs.declared.refusal.LineRefusal.{LineRefusal}
use Rattle.rl_log.specs.declared.status.Status.TheVariants.{Refused}
use Rattle.rl_log.specs.Log.{Ending, after_text, ends, said}
use Rattle.rl_log.specs.Recording.{no_counts, with_event}
use Rattle.rl_report.specs.Event.{event_line}
use Rattle.rl_report.specs.Item.{item_line}
use Rattle.rl_script.specs.declared.line.Line.{Line}
use Rattle.rl_script.specs.declared.line.Line.TheVariants as say
use Rattle.rl_session.specs.Soak.{next_state, drawn}
use Rattle.rl_weave.specs.declared.woven.Woven.{Woven}
use Rattle.rl_weave.specs.Access.{woven_at}
use Rattle.rl_weave.specs.Step.{end_of}
use Rattle.rl_weave.specs.Weave.{WeaveData, empty, stepped}
use Rattle.rl_weave_log.specs.declared.refusal.WovenRefusal.{WovenRefusal}
use Rattle.rl_weave_log.specs.declared.refusal.WovenRefusal.TheVariants.{Line as LineRefused}
use Rattle.rl_weave_log.specs.Adding.{adding_line}
use Rattle.rl_weave_log.specs.Refusals.{refused_woven_text}

-- what stands at a moment
pub record Weaving : Type 0 where
  -- the accesses of the group
  pub weave : WeaveData
  pub world : World
  -- the generator's state
  pub drawing : ℕ
  pub counts : Counts

-- what is written, and what stands after it
pub record Part : Type 0 where
  pub text : List ℕ
  pub after : Weaving

abbrev pub nothing : Weaving → Part
nothing g = record { text = []; after = g }

abbrev pub followed : Part → (Weaving → Part) → Part
followed p rest = let q = rest p.after in record { text = p.text ++ q.text; after = q.after }

-- ---- a word

abbrev pub no_op : BusOp
no_op = record { write = false; address = 0; word = 0; lanes = 0; bytes = 0 }

-- the next word of an access
abbrev pub next_op : World → Woven → BusOp
next_op w v = get_or (word_ops w.model.layout v.place v.access.value) (length v.items) no_op

-- its item: with the next tag of its root's adapter, and with the device's answer
abbrev pub item_sent : World → Woven → TraceItem
item_sent w v =
    let op = next_op w v in
    let port = port_for w.model.layout v.place in
    item_of (standing_at w.adapters (adapter_for w.model.layout v.place)) port op (answer_of w.device port op)

-- the predictor sees the item, the adapter moves on, and the device has done it
abbrev pub after_item : World → Woven → TraceItem → World
after_item w v item = record {
  model = observing w.model item;
  adapters = moved_on w.adapters (adapter_for w.model.layout v.place) item.op item.answer;
  device = state_after w.device (port_for w.model.layout v.place) item.op;
}

-- the line of the event, where the access is over
abbrev pub line_at_end : ModelData → Option Event → List ℕ
line_at_end m None = []
line_at_end m (Some e) = event_line m e

-- the line of an item, and that of the event
abbrev pub step_text : ModelData → TraceItem → Option Event → List ℕ
step_text m item end = item_line m.layout item ++ line_at_end m end

abbrev pub counted_at_end : Counts → Option Event → Counts
counted_at_end counts None = counts
counted_at_end counts (Some e) = with_event counts e

-- an access sends its item: the item's line, and the event's where the access is over
abbrev pub sends : Weaving → (which : ℕ) → TraceItem → Part
sends g which item =
    let v = woven_at g.weave.accesses which in
    let w = after_item g.world v item in
    let end = end_of w.model v item in
    record {
      text = step_text w.model item end;
      after = record g {
        weave = stepped g.weave which item;
        world = w;
        counts = counted_at_end g.counts end;
      };
    }

-- the open access that the generator's state chooses
abbrev pub chosen : WeaveData → ℕ → ℕ
chosen w x = get_or w.still_open (drawn x (length w.still_open)) 0

abbrev pub word_by : Weaving → (which : ℕ) → Part
word_by g which = sends g which (item_sent g.world (woven_at g.weave.accesses which))

-- the generator draws an open access, and that sends its next word
unfoldable pub word_drawn : Weaving → Part
word_drawn g =
    let x = next_state g.drawing in
    word_by (record g { drawing = x }) (chosen g.weave x)

-- ---- a group

-- words until no access is open, at most so many
unfoldable pub words : (most : ℕ) → Weaving → Part
words zero g = nothing g
words (suc most) g = if length g.weave.still_open == 0 then nothing g else followed (word_drawn g) (words most)

abbrev pub emptied : Part → Part
emptied p = record p { after = record p.after { weave = empty } }

-- 64 accesses of 8 words have 512
abbrev pub group : Weaving → Part
group g = emptied (words 512 g)

-- ---- what comes of a line

abbrev pub joins : Weaving → Result WeaveData WovenRefusal → Result Part WovenRefusal
joins g (Ok weave) = Ok (nothing (record g { weave = weave }))
joins g (Err why) = Err why

abbrev pub is_blank : Line → Bool
is_blank say.Blank = true
is_blank line = false

-- a blank line ends the group, and any other one joins it
abbrev pub taken_in : Weaving → Line → Result Part WovenRefusal
taken_in g line = if is_blank line then Ok (group g) else joins g (adding_line g.weave g.world.model line)

abbrev pub comes_of : Weaving → Result Line LineRefusal → Result Part WovenRefusal
comes_of g (Ok line) = taken_in g line
comes_of g (Err why) = Err (LineRefused why)

-- ---- a script

-- its group isn't run
abbrev pub stops : (number : ℕ) → WovenRefusal → Weaving → Ending
stops number why g = record {
  text = refused_woven_text number why;
  status = Refused;
  counts = g.counts;
  world = g.world;
}

abbrev pub goes_on : (number : ℕ) → Weaving → Result Part WovenRefusal → (rest : Weaving → Ending) → Ending
goes_on number g (Err why) rest = stops number why g
goes_on number g (Ok p) rest = after_text p.text (rest p.after)

-- the end of the input ends the last group
abbrev pub finished : Part → Ending
finished p = after_text p.text (ends p.after.counts p.after.world)

-- the lines from that number on
unfoldable pub woven_from : (number : ℕ) → Weaving → List (List ℕ) → Ending
woven_from number g [] = finished (group g)
woven_from number g (line ∷ lines) =
    goes_on number g (comes_of g (said number line)) (λ g. woven_from (number + 1) g lines)

-- ---- a script whose source failed

-- a line that is refused writes nothing here, and nothing comes after it
abbrev pub text_on : Result Part WovenRefusal → (rest : Weaving → List ℕ) → List ℕ
text_on (Err why) rest = []
text_on (Ok p) rest = p.text ++ rest p.after

-- the log of the groups that a blank line among these ends, from that number on: the last group isn't run
unfoldable pub closed_text : (number : ℕ) → Weaving → List (List ℕ) → List ℕ
closed_text number g [] = []
closed_text number g (line ∷ lines) =
    text_on (comes_of g (said number line)) (λ g. closed_text (number + 1) g lines)

-- ---- a whole script

-- no access yet, and the generator begins at n
abbrev pub counting : (n : ℕ) → Counts → World → Weaving
counting n counts w = record { weave = empty; world = w; drawing = n; counts = counts }

-- the log of a script from a world on
abbrev pub weave_log : (n : ℕ) → World → List (List ℕ) → Ending
weave_log n w lines = woven_from 1 (counting n no_counts w) lines
