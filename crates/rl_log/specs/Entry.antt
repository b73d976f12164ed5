-- What a line of a script does, and its log.
use Rattle.std.specs.Prelude.{ℕ, List, [], ◌∷◌, codes, decimal, length, Option, None, Some, option_map}
use Rattle.rl_access.specs.declared.event.Op.{Op}
use Rattle.rl_access.specs.declared.event.Op.TheVariants as op
use Rattle.rl_access.specs.declared.event.Tally.{Tally}
use Rattle.rl_access.specs.Model.{ModelData}
use Rattle.rl_access.specs.Rules.{grant}
use Rattle.rl_access.specs.Runs.{write_grant, writes_of, reads_of, no_tally, counted_all}
use Rattle.rl_script.specs.Commands.{sequence_name}
use Rattle.rl_script.specs.declared.line.Line.{Line}
use Rattle.rl_script.specs.declared.line.Line.TheVariants as line
use Rattle.rl_script.specs.declared.line.Sequence.{Sequence}
use Rattle.rl_script.specs.declared.line.Sequence.TheVariants.{HwReset, BitBash, Access, Shared, MemWalk}
use Rattle.rl_seq.specs.declared.sequence.Sequence.{Sequence as Named}
use Rattle.rl_seq.specs.declared.sequence.Sequence.TheVariants as named
use Rattle.rl_seq.specs.Plan.{Plan}
use Rattle.rl_seq.specs.Sequences.{plan_of as sequence_plan}
use Rattle.rl_report.specs.Pieces.{joined}
use Rattle.rl_log.specs.Course.{Course, nothing_done, alone, along, burst}
use Rattle.rl_log.specs.Named.{mem_named, map_asked, block_asked, op_named}
use Rattle.rl_log.specs.Recording.{events_text}
use Rattle.rl_access.specs.World.{World, step_of}

pub record Entry : Type 0 where
  pub text : List ℕ
  pub course : Course

abbrev pub plain : Course → Entry
plain c = record { text = events_text c.told; course = c }

-- ---- sequences

-- the sequence that a line names, and its plan
abbrev pub sequence_of : Sequence → Named
sequence_of HwReset = named.HwReset
sequence_of BitBash = named.BitBash
sequence_of Access = named.Access
sequence_of Shared = named.Shared
sequence_of MemWalk = named.MemWalk

abbrev pub plan_of : Sequence → ModelData → Option ℕ → Plan
plan_of which m block = sequence_plan (sequence_of which) m.chip m.layout block

-- its operations, from a world on
abbrev pub sequence_course : Sequence → Option ℕ → World → Course
sequence_course which block w = along w (plan_of which w.model block)

-- the block that is gone over, or `*` for the whole chip
abbrev pub over_text : Option (List ℕ) → List ℕ
over_text None = codes "*"
over_text (Some path) = path

abbrev pub sequence_text : Sequence → Option (List ℕ) → List ℕ
sequence_text which over = joined (codes "seq " ∷ sequence_name which ∷ codes " " ∷ over_text over ∷ [])

-- the line before its events
abbrev pub begin_text : Sequence → Option (List ℕ) → List ℕ
begin_text which over = joined (sequence_text which over ∷ codes ": begin\n" ∷ [])

abbrev pub tally_text : (steps differences errors : ℕ) → List ℕ
tally_text steps differences errors =
    joined (codes ": " ∷ decimal steps ∷ codes " steps, "
    ∷ decimal differences ∷ codes " differences, " ∷ decimal errors ∷ codes " bus errors\n" ∷ [])

-- the line after its events
abbrev pub closing_text : Sequence → Option (List ℕ) → (steps differences errors : ℕ) → List ℕ
closing_text which over steps differences errors =
    joined (sequence_text which over ∷ tally_text steps differences errors ∷ [])

abbrev pub closed_text : Sequence → Option (List ℕ) → Tally → List ℕ
closed_text which over tally = closing_text which over tally.steps tally.differences tally.errors

abbrev pub framed : Sequence → Option (List ℕ) → Course → Entry
framed which over c = record {
  text = joined (begin_text which over ∷ events_text c.told
      ∷ closed_text which over (counted_all no_tally c.told) ∷ []);
  course = c;
}

-- ---- operations and bursts

-- one operation
abbrev pub op_course : Op → World → Course
op_course op w = alone (step_of w op)

-- values to consecutive locations of a memory
abbrev pub burst_write_course : (mem : ℕ) → (map : Option ℕ) → (first : ℕ) → (values : List ℕ) → World → Course
burst_write_course mem map first values w =
    let asked = op.BurstWrite mem map first (length values) in
    burst w (write_grant w.model mem map first values) asked (writes_of mem map first values)

-- so many consecutive locations
abbrev pub burst_read_course : (mem : ℕ) → (map : Option ℕ) → (first count : ℕ) → World → Course
burst_read_course mem map first count w =
    let asked = op.BurstRead mem map first count in
    burst w (grant w.model asked) asked (reads_of mem map first count)

-- ---- lines

-- by the numbers of both names, if both are there
abbrev pub with_both : {A : Type 0} → Option ℕ → Option (Option ℕ) → (ℕ → Option ℕ → A) → Option A
with_both None map make = None
with_both (Some number) map make = option_map (make number) map

-- of a line that is one operation
abbrev pub op_entry : World → Line → Option Entry
op_entry w line = option_map (λ op. plain (op_course op w)) (op_named w.model line)

-- none where a name isn't there
abbrev pub entry_of : World → Line → Option Entry
entry_of w line.Blank = Some (plain (nothing_done w))
entry_of w (line.BurstWrite mem first values map) =
    with_both (mem_named w.model.chip mem) (map_asked w.model.layout map)
    (λ i t. plain (burst_write_course i t first values w))
entry_of w (line.BurstRead mem first count map) =
    with_both (mem_named w.model.chip mem) (map_asked w.model.layout map)
    (λ i t. plain (burst_read_course i t first count w))
entry_of w (line.Seq which over) =
    option_map (λ block. framed which over (sequence_course which block w)) (block_asked w.model.chip over)
entry_of w line = op_entry w line
