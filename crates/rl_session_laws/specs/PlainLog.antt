-- The log of the plain machine, which steps whole registers: it runs the lines of a session,
-- and its events have no items.
use Rattle.std.specs.Prelude.{◌≡◌, ℕ, ◌+◌, List, [], ◌∷◌, ◌++◌, length, map as each, Option, Some, option_map, Result, Ok, Err}
use Rattle.std.specs.Option.{ok_or}
use Rattle.std.specs.Io.KnownBytes.{Appends}
use Rattle.rl_bus.specs.declared.op.AdapterKind.{AdapterKind}
use Rattle.rl_bus.specs.Standing.{Standing, kinds_of}
use Rattle.rl_model.specs.Rows.{ChipData}
use Rattle.rl_map.specs.Layout.{LayoutData}
use Rattle.rl_access.specs.declared.event.Event.{Event}
use Rattle.rl_access.specs.declared.event.Op.TheVariants as op
use Rattle.rl_access.specs.HandsOver.{Told}
use Rattle.rl_access.specs.Model.{ModelData, IsModel}
use Rattle.rl_access.specs.Rules.{grant}
use Rattle.rl_access.specs.Runs.{write_grant, writes_of, reads_of, no_tally, counted_all}
use Rattle.rl_desc.specs.Data.{DescData}
use Rattle.rl_plain.specs.Agree.{HasNoVolatile}
use Rattle.rl_plain.specs.Machine.{Machine, seen, first_machine}
use Rattle.rl_plain.specs.Courses.{Course, through, along, burst}
use Rattle.rl_report.specs.Pieces.{joined}
use Rattle.rl_report.specs.WithoutItems.{plain_part}
use Rattle.rl_script.specs.declared.line.Line.{Line}
use Rattle.rl_script.specs.declared.line.Line.TheVariants as line
use Rattle.rl_script.specs.declared.line.Sequence.{Sequence}
use Rattle.rl_log.specs.declared.counts.Counts.{Counts}
use Rattle.rl_log.specs.declared.refusal.LineRefusal.{LineRefusal}
use Rattle.rl_log.specs.declared.refusal.LineRefusal.TheVariants.{NoSuchName}
use Rattle.rl_log.specs.Entry.{plan_of, begin_text, closed_text, with_both}
use Rattle.rl_session.specs.Judged.{judged, first_world}
use Rattle.rl_log.specs.Log.{said}
use Rattle.rl_session.specs.Session.{script_of, opening_of}
use Rattle.rl_log.specs.Named.{mem_named, map_asked, block_asked, op_named}
use Rattle.rl_log.specs.Recording.{events_text, no_counts, with_events}
use Rattle.rl_log.specs.Texts.{refused_text, end_text}

-- ---- what is told of its events

-- each, with a model of the same chip and layout
abbrev pub told_with : ModelData → List Event → List Told
told_with m events = each (λ e. record { model = m; event = e }) events

abbrev pub told_in : ChipData → LayoutData → Course → List Told
told_in c l done = told_with (seen c l done.machine) done.events

-- ---- a line

pub record PlainEntry : Type 0 where
  pub text : List ℕ
  pub told : List Told
  pub machine : Machine

abbrev pub plain_entry : ChipData → LayoutData → Course → PlainEntry
plain_entry c l done = record { text = events_text (told_in c l done); told = told_in c l done; machine = done.machine }

-- a sequence: a line, its events, and a line
abbrev pub plain_framed : Sequence → Option (List ℕ) → ChipData → LayoutData → Course → PlainEntry
plain_framed which over c l done = record {
  text = joined (begin_text which over ∷ events_text (told_in c l done)
      ∷ closed_text which over (counted_all no_tally (told_in c l done)) ∷ []);
  told = told_in c l done;
  machine = done.machine;
}

-- none where a name isn't there
abbrev pub plain_entry_of : ChipData → LayoutData → Machine → Line → Option PlainEntry
plain_entry_of c l p line.Blank = Some (plain_entry c l (through c l p []))
plain_entry_of c l p (line.BurstWrite mem first values map) = with_both (mem_named c mem) (map_asked l map)
    (λ i t. plain_entry c l (burst c l p (write_grant (seen c l p) i t first values)
    (op.BurstWrite i t first (length values)) (writes_of i t first values)))
plain_entry_of c l p (line.BurstRead mem first count map) = with_both (mem_named c mem) (map_asked l map)
    (λ i t. plain_entry c l (burst c l p (grant (seen c l p) (op.BurstRead i t first count))
    (op.BurstRead i t first count) (reads_of i t first count)))
plain_entry_of c l p (line.Seq which over) =
    option_map (λ block. plain_framed which over c l (along c l p (plan_of which (seen c l p) block)))
    (block_asked c over)
plain_entry_of c l p line = option_map (λ op. plain_entry c l (through c l p (op ∷ []))) (op_named (seen c l p) line)

abbrev pub plain_comes_of : ChipData → LayoutData → Machine → Result Line LineRefusal → Result PlainEntry LineRefusal
plain_comes_of c l p (Ok line) = ok_or (plain_entry_of c l p line) NoSuchName
plain_comes_of c l p (Err why) = Err why

-- ---- a script

-- a line that is refused is told in the last line, and any other one is followed by the rest
abbrev pub plain_goes_on : (number : ℕ) → Counts → Result PlainEntry LineRefusal → (Counts → Machine → List ℕ) → List ℕ
plain_goes_on number counts (Err why) rest = refused_text number why
plain_goes_on number counts (Ok entry) rest = entry.text ++ rest (with_events counts entry.told) entry.machine

-- the lines from that number on
unfoldable pub plain_from : ChipData → LayoutData → (number : ℕ) → Counts → Machine → List (List ℕ) → List ℕ
plain_from c l number counts p [] = end_text counts
plain_from c l number counts p (line ∷ lines) =
    plain_goes_on number counts (plain_comes_of c l p (said number line))
    (λ counts p. plain_from c l (number + 1) counts p lines)

-- ---- a session

abbrev pub plain_by : Result DescData (List ℕ) → List ℕ → List ℕ
plain_by (Ok desc) bytes = plain_from desc.chip desc.layout 1 no_counts (first_machine desc.chip) (script_of bytes)
plain_by (Err line) bytes = line

-- the whole log, with its last line
abbrev pub plain_log : List ℕ → List AdapterKind → List ℕ
plain_log bytes kinds = plain_by (opening_of bytes kinds) bytes

-- ---- a device that does as described

-- no flaw is declared, and no field is volatile
pub record IsSteady (desc : DescData) : Type 0 where
  pub flaws : desc.flaws ≡ []
  pub fields : HasNoVolatile desc.chip

-- a session that is refused before its script drives no device
abbrev pub IsSteadyOpening : Result DescData (List ℕ) → Type 0
IsSteadyOpening (Ok desc) = IsSteady desc
IsSteadyOpening (Err line) = Unit {0}

-- ---- the headline's other half

-- The log of such a session, without its item lines, is the plain machine's.
pub record IsPlainLog (bytes : List ℕ) (adapters : List Standing) : Type 0 where
  pub same : IsSteadyOpening (opening_of bytes (kinds_of adapters))
      → plain_part (judged bytes adapters).text ≡ plain_log bytes (kinds_of adapters)

-- What was written is, without its item lines, the plain machine's log.
pub record WritesPlainLog (bytes : List ℕ) (kinds : List AdapterKind) (old new : Option (List ℕ)) : Type 0 where
  pub text : List ℕ
  pub written : Appends old new text
  pub same : plain_part text ≡ plain_log bytes kinds

-- of every session that opens with a description of which a model is sound
abbrev pub OpenedLogIsPlain : Type 0
OpenedLogIsPlain =
    (bytes : List ℕ) (adapters : List Standing) (desc : DescData) → opening_of bytes (kinds_of adapters) ≡ Ok desc
    → IsModel (first_world desc adapters).model → IsPlainLog bytes adapters
