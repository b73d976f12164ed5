-- The lines of a plan read back.
use Rattle.std.proofs.Common.{◌≡◌, ℕ, ◌^◌, ◌<◌, true, List, length, All, Option, Some, IfSome, IsTrue, Ok, refl, ap, subst, ◌∙◌}
use Rattle.rl_model.specs.Chip.{IsSound}
use Rattle.rl_access.specs.declared.event.Op.{Op}
use Rattle.rl_access.specs.declared.event.Op.TheVariants as op
use Rattle.rl_access.specs.Model.{ModelData}
use Rattle.rl_report.specs.Operation.{IsSpokenIn, kind_text, line_of, map_name, op_text, spoken_line, spoken_of, spoken_text, subject_path}
use Rattle.rl_report.specs.WithoutItems.{HasNames}
use Rattle.rl_report.proofs.OperationLemmas.{spoken_in}
use Rattle.rl_report.proofs.ScriptPaths.{kind_is_name, map_is_name, subject_is_path}
use Rattle.rl_script.specs.Commands.{line_of as line_with, may_count}
use Rattle.rl_script.specs.declared.command.Item.{Item}
use Rattle.rl_script.specs.declared.line.Line.TheVariants as line
use Rattle.rl_script.specs.Reading.{read_of}
use Rattle.rl_script.specs.Names.{is_name, is_path}
use Rattle.rl_script.specs.Spelling.{spelling}
use Rattle.rl_script.proofs.AgainLemmas.{read_again}
use Rattle.rl_script.proofs.ItemLemmas.{item_line_counts, item_line_is, item_line_is_no_burst}
use Rattle.rl_script.proofs.ShortLemmas.{is_short}
use Rattle.rl_plan.specs.Laws.{LinesReadBack, ReadsBack}
use Rattle.rl_plan.specs.Text.{planned_for, planned_further, planned_in}
use Rattle.rl_plan.proofs.Planned.{Fits, further_fits, mem_fits, of_all, reg_fits}

module _ (m : ModelData) (chip : IsSound m.chip) (names : HasNames m.chip m.layout) where
  reads_with : (command : Item) (path : List ℕ) (first second : ℕ) (through : Option (List ℕ)) → IsTrue (is_path path)
      → (first < 2 ^ 64) × (second < 2 ^ 64) → IfSome through (λ name. IsTrue (is_name name)) → may_count command second ≡ true
      → read_of (spelling (line_with command path first second through)) ≡ Ok (line_with command path first second through)
  reads_with command path first second through good fits named count =
      let l = line_with command path first second through in
      let stands = item_line_is command path first second through good fits.0 fits.1 named in
      let counts = item_line_counts command path first second through count in
      read_again l stands (counts, is_short l stands (item_line_is_no_burst command path first second through))

  -- an operation on an item, by its command
  spoken_reads : (o : Op) (s : _) → spoken_of o ≡ Some s → line_of m o ≡ Some (spoken_line m s) → op_text m o ≡ spoken_text m s
      → may_count s.command s.second ≡ true → Fits m.chip (length m.layout.maps) o → ReadsBack m o
  spoken_reads o s is line_is text counts fits =
      let inside = subst (λ o. IfSome o (IsSpokenIn m)) is (spoken_in m o fits.1) in
      let words = subst (λ o. IfSome o (λ s. (s.first < 2 ^ 64) × (s.second < 2 ^ 64))) is fits.2 in
      let path = subject_is_path m.chip chip s.subject inside.subject in
      let named = map_is_name m names s.map inside.through in
      record {
        line = spoken_line m s;
        line_is = line_is;
        reads = ap read_of text
            ∙ reads_with s.command (subject_path m.chip s.subject) s.first s.second (map_name m.layout s.map) path words named counts;
      }

  op_reads : (o : Op) → Fits m.chip (length m.layout.maps) o → ReadsBack m o
  op_reads (op.Reset kind) fits =
      let l = line.Reset (kind_text m.chip kind) in
      let name = kind_is_name m names kind fits.1 in
      record { line = l; line_is = refl; reads = read_again l name (tt, is_short l name refl) }
  op_reads (op.Check reg map) fits = spoken_reads (op.Check reg map) _ refl refl refl refl fits
  op_reads (op.BackCheck reg) fits = spoken_reads (op.BackCheck reg) _ refl refl refl refl fits
  op_reads (op.Write reg map value) fits = spoken_reads (op.Write reg map value) _ refl refl refl refl fits
  op_reads (op.Poke reg value) fits = spoken_reads (op.Poke reg value) _ refl refl refl refl fits
  op_reads (op.MemWrite mem map index value) fits = spoken_reads (op.MemWrite mem map index value) _ refl refl refl refl fits
  op_reads (op.MemCheck mem map index value) fits = spoken_reads (op.MemCheck mem map index value) _ refl refl refl refl fits
  op_reads (op.MemRead mem map index) fits = spoken_reads (op.MemRead mem map index) _ refl refl refl refl fits
  op_reads _ fits = absurd (cc (fits.0))

  each_reads : (ops : List Op) → All (Fits m.chip (length m.layout.maps)) ops → All (ReadsBack m) ops
  each_reads ops each = of_all (Fits m.chip (length m.layout.maps)) (ReadsBack m) ops op_reads each

pub lines_read_back : LinesReadBack
lines_read_back = record {
  registers = λ m asked reg model names there. each_reads m model.chip names (planned_for m asked reg) (reg_fits m asked reg model there);
  further = λ m asked reg model names there. each_reads m model.chip names (planned_further m asked reg) (further_fits m asked reg model there);
  memories = λ m mem model names there. each_reads m model.chip names (planned_in m mem) (mem_fits m mem model there);
}
