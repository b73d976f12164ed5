-- That the rows of flaws read back as these flaws.
use Rattle.std.specs.Prelude.{◌≡◌, ℕ, ◌^◌, ◌<◌, ◌≤◌, true, List, [], ◌∷◌, length, map, filter, All, is_some, is_ok, Some, None, IfOk}
use Rattle.toml.specs.Data.{Members}
use Rattle.rl_bus.specs.declared.op.AdapterKind.{AdapterKind}
use Rattle.rl_model.specs.Chip.{HasItem, IsSound}
use Rattle.rl_map.specs.Layout.{IsSound as IsSoundLayout}
use Rattle.rl_flaw.specs.declared.flaw.Flaw.{Flaw}
use Rattle.rl_flaw.specs.declared.flaw.Flaw.TheVariants.{Deaf, ErrorNth, ErrorRange, OtherPolicy, OtherReset, Stuck}
use Rattle.rl_flaw.specs.Flaws.{width_of}
use Rattle.rl_desc.specs.Data.{DescData, DocumentData}
use Rattle.rl_desc.specs.Described.{document_of, rows_fault, described}
use Rattle.rl_desc.specs.Flaws.{flaws_fault, flaws_of, reset_value}
use Rattle.rl_desc.specs.Reading.{document_fault, document_data}
use Rattle.rl_grade_report.specs.declared.verdict.Judged.{Judged}
use Rattle.rl_grade_report.specs.declared.verdict.Verdict.{Verdict}
use Rattle.rl_grade_report.specs.Row.{flaw_row, rows_text, found_text}
use Rattle.rl_grade_report.specs.Verdict.{flaws_with}
use Rattle.rl_grade_report.specs.Whole.{IsSingle}

-- ---- flaws

-- What the flaw names is there, its bits lie in the field, a port's addresses fit 64 bits, and the number of a bus item
-- is one that TOML can write.
abbrev pub IsWritable : DescData → Flaw → Type 0
IsWritable d (Stuck field bit value) = (field < length d.chip.fields) × (bit < width_of d.chip field)
IsWritable d (OtherReset field kind value) =
    (field < length d.chip.fields) × (kind < length d.chip.kinds) × (is_some (reset_value d.chip field kind) ≡ true)
    × (value < 2 ^ width_of d.chip field)
IsWritable d (OtherPolicy field policy) = field < length d.chip.fields
IsWritable d (ErrorRange port from to) = (port < length d.layout.ports) × (from ≤ to) × (to < 2 ^ 64)
IsWritable d (ErrorNth nth) = (0 < nth) × (nth < 2 ^ 63)
IsWritable d (Deaf item) = HasItem d.chip item

-- so is each flaw that a grading tries, where the session sends fewer bus items than that
abbrev pub SinglesAreWritable : Type 0
SinglesAreWritable = (d : DescData) (items : ℕ) (flaw : Flaw) → IsSound d.chip → IsSoundLayout d.layout → items < 2 ^ 63
    → IsSingle d items flaw → IsWritable d flaw

-- those that are found, in order
abbrev pub found_flaws : List Judged → List Flaw
found_flaws judged = map (λ j. j.flaw) (filter (λ j. is_ok j.found) judged)

abbrev pub IsFoundLow : Judged → Type 0
IsFoundLow j = IfOk j.found (λ find. find.line < 2 ^ 63)

-- ---- what a text says

-- rows of flaws and nothing else
abbrev pub HasFlawsAlone : DocumentData → Type 0
HasFlawsAlone rows = rows ≡ record {
  parts = record { blocks = []; files = []; regs = []; mems = [] };
  maps = [];
  places = [];
  flaws = rows.flaws;
}

-- The text is TOML and has the form of a description, with as many rows as there are flaws and nothing else. In this
-- chip and this layout its rows say these flaws, and have no fault where they are as few as a description may have.
pub record ReadsBack (d : DescData) (text : List ℕ) (flaws : List Flaw) : Type 0 where
  pub table : Members
  pub is_table : document_of text ≡ Some table
  pub has_form : document_fault table ≡ None
  pub alone : HasFlawsAlone (document_data table)
  pub count : length (document_data table).flaws ≡ length flaws
  pub says : flaws_of d.chip d.layout (document_data table).flaws ≡ flaws
  pub no_fault : length flaws ≤ 256 → flaws_fault d.chip d.layout 0 (document_data table).flaws ≡ None

-- ---- the laws, of what a description with no fault describes

-- the row of a flaw
abbrev pub RowReadsBack : Type 0
RowReadsBack = (rows : DocumentData) (kinds : List AdapterKind) (flaw : Flaw) → rows_fault rows kinds ≡ None
    → let d = described rows kinds in IsWritable d flaw → ReadsBack d (flaw_row d.chip d.layout flaw) (flaw ∷ [])

-- the rows of all flaws of a verdict
abbrev pub RowsReadBack : Type 0
RowsReadBack = (rows : DocumentData) (kinds : List AdapterKind) (judged : List Judged) (verdict : Verdict)
    → rows_fault rows kinds ≡ None
    → let d = described rows kinds in
    All (λ j. IsWritable d j.flaw) judged
    → ReadsBack d (rows_text d.chip d.layout judged verdict) (flaws_with verdict judged)

-- those of all found ones, each behind the number of its line
abbrev pub FoundRowsReadBack : Type 0
FoundRowsReadBack = (rows : DocumentData) (kinds : List AdapterKind) (judged : List Judged)
    → rows_fault rows kinds ≡ None
    → let d = described rows kinds in
    All (λ j. IsWritable d j.flaw) judged → All IsFoundLow judged
    → ReadsBack d (found_text d.chip d.layout judged) (found_flaws judged)
