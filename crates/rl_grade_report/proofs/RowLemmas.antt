-- Each row reads back as its flaw.
use Rattle.std.proofs.Common.{◌≡◌, ℕ, ◌<◌, ◌≤◌, ◌^◌, Bool, true, false, if◌then◌else◌, List, [], ◌∷◌, length, All, subst, append-nil, Option, Some, None, option_map, refl, sym, arith, slice_get, unwrap_or}
use Rattle.std.specs.Prelude.{flat_map, filter, Result, Ok, Err, IfOk}
use Rattle.std.proofs.lemmas.List.Elements.{All-filter, All-head, All-map, All-tail}
use Rattle.std.proofs.Math.Pow.{pow_mono}
use Rattle.toml.specs.Data.{Members}
use Rattle.rl_policy.specs.Names.{name_of}
use Rattle.rl_policy.specs.Numbers.{spelled}
use Rattle.rl_model.specs.Rows.{ChipData, FieldSeen}
use Rattle.rl_model.specs.Build.{chip_of, chip_fault}
use Rattle.rl_model.specs.Chip.{IsSound, path_of_item}
use Rattle.rl_model.proofs.ChipSound.{each_chip_sound}
use Rattle.rl_model.proofs.SoundLemmas.{both_None}
use Rattle.rl_model.proofs.ChipLaws.{field_has_bits}
use Rattle.std.proofs.lemmas.Option.{none-some}
use Rattle.rl_bus.specs.declared.op.AdapterKind.{AdapterKind}
use Rattle.rl_map.specs.Faults.{layout_fault}
use Rattle.rl_flaw.specs.declared.flaw.Flaw.{Flaw}
use Rattle.rl_flaw.specs.declared.flaw.Flaw.TheVariants as flaw
use Rattle.rl_flaw.specs.Flaws.{width_of}
use Rattle.rl_desc.specs.Data.{DescData, DocumentData}
use Rattle.rl_desc.specs.Described.{rows_fault, described}
use Rattle.rl_desc.specs.Flaws.{root_at}
use Rattle.rl_report.specs.Pieces.{joined}
use Rattle.rl_grade.specs.declared.seen.Find.{Find}
use Rattle.rl_grade_report.specs.declared.verdict.Judged.{Judged}
use Rattle.rl_grade_report.specs.declared.verdict.Verdict.{Verdict}
use Rattle.rl_grade_report.specs.Verdict.{flaws_with, has_verdict}
use Rattle.rl_grade_report.specs.Groups.{kind_text, root_name}
use Rattle.rl_grade_report.specs.Lines.{field_name}
use Rattle.rl_grade_report.specs.Row.{flaw_row, rows_text, found_row, found_text}
use Rattle.rl_grade_report.specs.RowLaw.{IsWritable, RowReadsBack, RowsReadBack, FoundRowsReadBack, IsFoundLow, found_flaws}
use Rattle.rl_grade_report.proofs.RowText.{are_plain, IsRow, Rows, noted}
use Rattle.rl_grade_report.proofs.RowText.{stuck_table, reset_table, policy_table, range_table, nth_table, deaf_table, stuck_is, reset_is, policy_is, range_is, nth_is, deaf_is}
use Rattle.rl_grade_report.proofs.RowSame.{stuck_same, reset_same, policy_same, range_same, nth_same, deaf_same}
use Rattle.rl_grade_report.proofs.RowSaid.{IsSaid, stuck_said, reset_said, policy_said, range_said, nth_said, deaf_said}
use Rattle.rl_grade_report.proofs.RowList.{AreSaid, reads_back}
use Rattle.rl_grade_report.proofs.RowNames.{kind_found, item_found, field_found}
use Rattle.rl_grade_report.proofs.RowPlain.{item_plain, field_plain, kind_plain, policy_plain, number_plain}
use Rattle.rl_grade_report.proofs.RowMaps.{root_found}

-- what a chip and a layout with no fault give
record AreNamed (d : DescData) : Type 0 where
  sound : IsSound d.chip
  kind : (k : ℕ) → k < length d.chip.kinds → are_plain (kind_text d.chip k) ≡ true
  root : (port : ℕ) → port < length d.layout.ports → (root_at d.layout (root_name d.layout port) ≡ Some port) × (are_plain (root_name d.layout port) ≡ true)

wide : (c : ChipData) → IsSound c → (f : ℕ) → width_of c f ≤ 64
wide c s f = wide_by c s f (slice_get c.fields f) refl
  where
    wide_by : (c : ChipData) → IsSound c → (f : ℕ) → (o : Option FieldSeen) → slice_get c.fields f ≡ o → unwrap_or (option_map (λ s. s.shape.width) o) 0 ≤ 64
    wide_by c s f None at = omega arith
    wide_by c s f (Some x) at = (field_has_bits c s f x at).2

bit_small : (value : Bool) → (if value then 1 else 0) < 2 ^ 63
bit_small true = omega arith
bit_small false = omega arith

-- the row of the flaw, and its table
pub record IsWritten (d : DescData) (f : Flaw) : Type 0 where
  pub row : Members
  pub written : IsRow (flaw_row d.chip d.layout f) row
  pub said : IsSaid d row f

made : (d : DescData) (f : Flaw) (text : List ℕ) (row : Members) → flaw_row d.chip d.layout f ≡ text → IsRow text row → IsSaid d row f → IsWritten d f
made d f text row same is said = record { row = row; written = subst (λ t. IsRow t row) (sym same) is; said = said }

each_written : (d : DescData) → AreNamed d → (f : Flaw) → IsWritable d f → IsWritten d f
each_written d n (flaw.Stuck field bit value) (lt, within) =
    let name = field_name d.chip field in
    let small : bit < 2 ^ 63 = omega (arith, within, wide d.chip n.sound field) in
    let v : ℕ = if value then 1 else 0 in
    made d (flaw.Stuck field bit value) _ (stuck_table name bit v) (stuck_same d.chip field bit value)
    (stuck_is name bit v (field_plain d.chip n.sound field lt) small (bit_small value))
    (stuck_said d field bit value name (field_found d.chip n.sound field lt) within)
each_written d n (flaw.OtherReset field kind value) (lt, lt_kind, has, fits) =
    let name = field_name d.chip field in
    let on = kind_text d.chip kind in
    let most : 2 ^ width_of d.chip field ≤ 2 ^ 64 = pow_mono (wide d.chip n.sound field) in
    let small : value < 2 ^ 64 = omega (arith, fits, most) in
    made d (flaw.OtherReset field kind value) _ (reset_table name on (spelled value)) (reset_same d.chip field kind value)
    (reset_is name on (spelled value) (field_plain d.chip n.sound field lt) (n.kind kind lt_kind) (number_plain value))
    (reset_said d field kind value name on (field_found d.chip n.sound field lt) (kind_found d.chip n.sound kind lt_kind) has fits small)
each_written d n (flaw.OtherPolicy field policy) lt =
    let name = field_name d.chip field in
    made d (flaw.OtherPolicy field policy) _ (policy_table name (name_of policy)) (policy_same d.chip field policy)
    (policy_is name (name_of policy) (field_plain d.chip n.sound field lt) (policy_plain policy))
    (policy_said d field policy name (field_found d.chip n.sound field lt))
each_written d n (flaw.ErrorRange port from to) (lt, order, small) =
    let name = root_name d.layout port in
    made d (flaw.ErrorRange port from to) _ (range_table name (spelled from) (spelled to)) (range_same d.layout port from to)
    (range_is name (spelled from) (spelled to) (n.root port lt).1 (number_plain from) (number_plain to))
    (range_said d port from to name (n.root port lt).0 order small)
each_written d n (flaw.ErrorNth nth) (some, small) =
    made d (flaw.ErrorNth nth) _ (nth_table nth) (nth_same nth) (nth_is nth small) (nth_said d nth some)
each_written d n (flaw.Deaf item) has =
    let path = path_of_item d.chip item in
    made d (flaw.Deaf item) _ (deaf_table path) (deaf_same d.chip item) (deaf_is path (item_plain d.chip n.sound item has))
    (deaf_said d item path (item_found d.chip n.sound item has))

-- rows one behind another
record AreWritten (d : DescData) (text : List ℕ) (flaws : List Flaw) : Type 0 where
  rows : List Members
  written : Rows text rows
  said : AreSaid d rows flaws

all_written : (d : DescData) → AreNamed d → (flaws : List Flaw) → All (IsWritable d) flaws → AreWritten d (flat_map (flaw_row d.chip d.layout) flaws) flaws
all_written d n [] h = record { rows = []; written = refl; said = tt }
all_written d n (f ∷ fs) h =
    let here = each_written d n f (All-head (IsWritable d) f fs h) in
    let more = all_written d n fs (All-tail (IsWritable d) f fs h) in
    record {
      rows = here.row ∷ more.rows;
      written = (flaw_row d.chip d.layout f, flat_map (flaw_row d.chip d.layout) fs, refl, here.written, more.written);
      said = (here.said, more.said);
    }

mapped_none : {X Y : Type 0} (f : X → Y) (o : Option X) → option_map f o ≡ None → o ≡ None
mapped_none f None h = refl
mapped_none f (Some x) h = absurd (let bad : Some (f x) ≡ None = h in none-some (f x) (sym bad))

are_named : (rows : DocumentData) (kinds : List AdapterKind) → rows_fault rows kinds ≡ None → AreNamed (described rows kinds)
unfolding rows_fault described
are_named rows kinds h =
    let step = both_None _ _ h in
    let more = both_None _ _ step.1 in
    let chip : chip_fault rows.parts ≡ None = mapped_none _ (chip_fault rows.parts) step.0 in
    let layout = mapped_none _ (layout_fault (chip_of rows.parts) rows.maps rows.places kinds) more.0 in
    record {
      sound = each_chip_sound rows.parts chip;
      kind = kind_plain rows.parts chip;
      root = root_found (chip_of rows.parts) rows.maps rows.places kinds layout;
    }

pub row_reads_back : RowReadsBack
row_reads_back rows kinds f h writable =
    let d = described rows kinds in
    let w = each_written d (are_named rows kinds h) f writable in
    reads_back d (flaw_row d.chip d.layout f) (w.row ∷ []) (f ∷ []) (flaw_row d.chip d.layout f, [], sym (append-nil (flaw_row d.chip d.layout f)), w.written, refl) (w.said, tt)

pub rows_read_back : RowsReadBack
rows_read_back rows kinds judged verdict h writable =
    let d = described rows kinds in
    let flaws = flaws_with verdict judged in
    let those = filter (λ (j : Judged). has_verdict verdict j) judged in
    let each = All-map (IsWritable d) (λ (j : Judged). j.flaw) those
    (All-filter (λ (j : Judged). has_verdict verdict j) (λ (j : Judged). IsWritable d j.flaw) judged writable) in
    let w = all_written d (are_named rows kinds h) flaws each in
    reads_back d (rows_text d.chip d.layout judged verdict) w.rows flaws w.written w.said

-- ---- behind the lines that find them

found_step : (d : DescData) (j : Judged) (js : List Judged) (o : Result Find Verdict) → j.found ≡ o → IfOk o (λ find. find.line < 2 ^ 63) → IsWritten d j.flaw
    → AreWritten d (found_text d.chip d.layout js) (found_flaws js) → AreWritten d (found_text d.chip d.layout (j ∷ js)) (found_flaws (j ∷ js))
unfolding joined
found_step d j js (Ok find) is low here more =
    let row : IsRow (found_row d.chip d.layout j) here.row = rw is (noted (flaw_row d.chip d.layout j.flaw) here.row find.line here.written low) in
    record {
      rows = here.row ∷ more.rows;
      written = (found_row d.chip d.layout j, found_text d.chip d.layout js, refl, row, more.written);
      said = rw is (here.said, more.said);
    }
found_step d j js (Err verdict) is low here more = record { rows = more.rows; written = rw is more.written; said = rw is more.said }

found_written : (d : DescData) → AreNamed d → (judged : List Judged) → All (λ j. IsWritable d j.flaw) judged → All IsFoundLow judged
    → AreWritten d (found_text d.chip d.layout judged) (found_flaws judged)
found_written d n [] h low = record { rows = []; written = refl; said = tt }
found_written d n (j ∷ js) h low =
    let here = each_written d n j.flaw (All-head (λ (j : Judged). IsWritable d j.flaw) j js h) in
    let more = found_written d n js (All-tail (λ (j : Judged). IsWritable d j.flaw) j js h) (All-tail IsFoundLow j js low) in
    found_step d j js j.found refl (All-head IsFoundLow j js low) here more

pub found_rows_read_back : FoundRowsReadBack
found_rows_read_back rows kinds judged h writable low =
    let d = described rows kinds in
    let w = found_written d (are_named rows kinds h) judged writable low in
    reads_back d (found_text d.chip d.layout judged) w.rows (found_flaws judged) w.written w.said
