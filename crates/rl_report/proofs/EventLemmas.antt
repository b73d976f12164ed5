-- The lines of an event: its own begins by a word and reads back, and those of its items are indented.
use Rattle.std.proofs.Common.{◌≡◌, ℕ, ◌^◌, ◌<◌, true, false, List, [], ◌∷◌, ◌++◌, length, codes, flat_map, Option, Some}
use Rattle.std.proofs.Common.{None, option_map, unwrap_or, refl, sym, ap, ◌∙◌, subst, append_assoc, append-nil}
use Rattle.std.specs.Prelude.{IfSome}
use Rattle.rl_model.specs.Chip.{IsSound}
use Rattle.rl_access.specs.declared.event.Event.{Event}
use Rattle.rl_access.specs.declared.event.Op.{Op}
use Rattle.rl_access.specs.declared.event.Op.TheVariants as op
use Rattle.rl_access.specs.declared.trace.TraceItem.{TraceItem}
use Rattle.rl_access.specs.Model.{ModelData}
use Rattle.rl_access.specs.Operation.{HasNumbers}
use Rattle.rl_script.specs.declared.line.Line.{Line}
use Rattle.rl_script.specs.Commands.{may_count}
use Rattle.rl_script.specs.Reading.{read_of}
use Rattle.rl_script.specs.Spelling.{spelling, IsLine, HasGoodCount}
use Rattle.rl_script.specs.Bursts.{is_burst_write}
use Rattle.rl_script.proofs.AgainLemmas.{read_again}
use Rattle.rl_script.proofs.ItemLemmas.{item_line_is, item_line_counts, item_line_is_no_burst}
use Rattle.rl_script.proofs.ShortLemmas.{is_short}
use Rattle.rl_report.specs.declared.operation.Spoken.{Spoken}
use Rattle.rl_report.specs.Event.{event_line, event_text}
use Rattle.rl_report.specs.Item.{item_line}
use Rattle.rl_report.specs.Operation.{spoken_of, spoken_line, subject_path, map_name, line_of, burst_text, op_text, IsSpokenIn, FitsWords}
use Rattle.rl_report.specs.Outcome.{result_text}
use Rattle.rl_report.specs.Pieces.{joined}
use Rattle.rl_report.specs.ReadBack.{before_colon, OperationsReadBack}
use Rattle.rl_report.specs.WithoutItems.{plain_part, is_one_line, IsLine as IsOneLine, HasNames, ItemsAreIndented}
use Rattle.rl_report.proofs.ItemLemmas.{item_is_indented_line}
use Rattle.rl_report.proofs.NameTexts.{IsSpelling, before_colon-spelling}
use Rattle.rl_report.proofs.OperationLemmas.{from_some, spoken_in, spelling-line_of, unbroken-op_text, op_is_flush}
use Rattle.rl_report.proofs.OutcomeLemmas.{unbroken-result_text, colon-result_text}
use Rattle.rl_report.proofs.PlainPart.{plain_part-line, plain_part-indented, plain_part-nil}
use Rattle.rl_report.proofs.ScriptPaths.{subject_is_path, map_is_name, kind_is_name}
use Rattle.rl_report.proofs.Unbroken.{one_line-joined}

newline_ends : is_one_line (joined (codes "\n" ∷ [])) ≡ true
unfolding joined
newline_ends = refl

module _ (m : ModelData) (chip : IsSound m.chip) (names : HasNames m.chip m.layout) where
  pub event_is_line : (e : Event) → IsOneLine (event_line m e)
  unfolding event_line
  event_is_line e = record {
    one = one_line-joined (op_text m e.op) _ (unbroken-op_text m chip names e.op) (one_line-joined (result_text m.chip e) _ (unbroken-result_text m.chip chip e) newline_ends);
    flush = op_is_flush m e.op _;
  }

  -- ---- what is left of an event

  plain_part-items : (items : List TraceItem) (rest : List ℕ) → plain_part (flat_map (item_line m.layout) items ++ rest) ≡ plain_part rest
  plain_part-items [] rest = refl
  plain_part-items (i ∷ items) rest =
      ap plain_part (append_assoc (item_line m.layout i) (flat_map (item_line m.layout) items) rest)
      ∙ plain_part-indented (item_line m.layout i) (flat_map (item_line m.layout) items ++ rest) (item_is_indented_line m names i)
      ∙ plain_part-items items rest

  -- its line, before what is left of what follows
  pub plain_part-event_text : (e : Event) (rest : List ℕ) → plain_part (event_text m e ++ rest) ≡ event_line m e ++ plain_part rest
  unfolding event_text joined
  plain_part-event_text e rest =
      let items = flat_map (item_line m.layout) e.trace in
      ap (λ text. plain_part ((event_line m e ++ text) ++ rest)) (append-nil items)
      ∙ ap plain_part (append_assoc (event_line m e) items rest)
      ∙ plain_part-line (event_line m e) (items ++ rest) (event_is_line e)
      ∙ ap (λ text. event_line m e ++ text) (plain_part-items e.trace rest)

-- an event without items is told by its line
pub event_text-without_items : (m : ModelData) (e : Event) → event_text m (record e { trace = [] }) ≡ event_line m e
unfolding event_text joined event_line
event_text-without_items m e = append-nil (event_line m e)

pub items_are_left_out : ItemsAreIndented
items_are_left_out m e model names =
    ap plain_part (sym (append-nil (event_text m e))) ∙ plain_part-event_text m model.chip names e []
    ∙ ap (λ text. event_line m e ++ text) plain_part-nil ∙ append-nil (event_line m e) ∙ sym (event_text-without_items m e)

-- ---- read back

-- a line that may be written, and isn't too long
record MayStand (l : Line) : Type 0 where
  line : IsLine l
  count : HasGoodCount l
  no_burst : is_burst_write l ≡ false

counted : (o : Op) → IfSome (spoken_of o) (λ s. may_count s.command s.second ≡ true)
counted (op.BurstWrite mem map first count) = tt
counted (op.BurstRead mem map first count) = tt
counted (op.Reset kind) = tt
counted (op.Write reg map value) = refl
counted _ = refl

module _ (m : ModelData) (chip : IsSound m.chip) (names : HasNames m.chip m.layout) where
  spoken_stands : (s : Spoken) → IsSpokenIn m s → (s.first < 2 ^ 64) × (s.second < 2 ^ 64) → may_count s.command s.second ≡ true → MayStand (spoken_line m s)
  spoken_stands s h fits count =
      let path = subject_path m.chip s.subject in
      let through = map_name m.layout s.map in
      record {
        line = item_line_is s.command path s.first s.second through (subject_is_path m.chip chip s.subject h.subject) fits.0 fits.1 (map_is_name m names s.map h.through);
        count = item_line_counts s.command path s.first s.second through count;
        no_burst = item_line_is_no_burst s.command path s.first s.second through;
      }

  some_stands : (o : Option Spoken) → IfSome o (IsSpokenIn m) → IfSome o (λ s. (s.first < 2 ^ 64) × (s.second < 2 ^ 64)) → IfSome o (λ s. may_count s.command s.second ≡ true)
      → IfSome (option_map (spoken_line m) o) MayStand
  some_stands None h fits count = tt
  some_stands (Some s) h fits count = spoken_stands s h fits count

  line_stands : (o : Op) → HasNumbers m.chip (length m.layout.maps) o → FitsWords o → IfSome (line_of m o) MayStand
  line_stands (op.Reset kind) h fits = record { line = kind_is_name m names kind h; count = tt; no_burst = refl }
  line_stands o h fits = some_stands (spoken_of o) (spoken_in m o h) fits (counted o)

  op_before_colon : (e : Event) → IsSpelling (op_text m e.op) → before_colon (event_line m e) ≡ op_text m e.op
  unfolding event_line joined
  op_before_colon e bytes =
      let colon = colon-result_text m.chip e (codes "\n" ∷ []) in
      ap (λ l. before_colon (op_text m e.op ++ l)) colon.1 ∙ before_colon-spelling (op_text m e.op) colon.0 bytes

pub operations_read_back : OperationsReadBack
operations_read_back m e l model names numbers fits is =
    let same : op_text m e.op ≡ spelling l = ap (λ (o : Option Line). unwrap_or (option_map spelling o) (burst_text m e.op)) is in
    let bytes : IsSpelling (spelling l) = from_some (λ l. IsSpelling (spelling l)) (line_of m e.op) l is (spelling-line_of m model.chip names e.op) in
    let stands : MayStand l = from_some MayStand (line_of m e.op) l is (line_stands m model.chip names e.op numbers fits) in
    ap read_of (op_before_colon m model.chip names e (subst IsSpelling (sym same) bytes) ∙ same)
    ∙ read_again l stands.line (stands.count, is_short l stands.line stands.no_burst)
