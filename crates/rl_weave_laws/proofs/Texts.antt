-- What is left of the text of a word without item lines.
use Rattle.std.proofs.Common.{◌≡◌, ℕ, List, [], ◌∷◌, ◌++◌, codes, map, Option, Some, None, refl, sym, ap, subst, ◌∙◌, append_assoc, append-nil}
use Rattle.std.specs.List.{concat}
use Rattle.rl_model.specs.Chip.{IsSound}
use Rattle.rl_model.specs.Rows.{ChipData}
use Rattle.rl_map.specs.Layout.{LayoutData}
use Rattle.rl_mirror.specs.Mirror.{MirrorData}
use Rattle.rl_access.specs.declared.event.Event.{Event}
use Rattle.rl_access.specs.declared.event.Op.{Op}
use Rattle.rl_access.specs.declared.event.Op.TheVariants as op
use Rattle.rl_access.specs.declared.predictor.Gathered.{Gathered}
use Rattle.rl_access.specs.declared.trace.TraceItem.{TraceItem}
use Rattle.rl_access.specs.Model.{ModelData}
use Rattle.rl_plain.specs.Calls.{without_items}
use Rattle.rl_report.specs.Event.{event_line}
use Rattle.rl_report.specs.Item.{item_line}
use Rattle.rl_report.specs.Operation.{op_text}
use Rattle.rl_report.specs.Outcome.{result_text}
use Rattle.rl_report.specs.Pieces.{joined}
use Rattle.rl_report.specs.WithoutItems.{plain_part, HasNames}
use Rattle.rl_report.proofs.EventLemmas.{event_is_line}
use Rattle.rl_report.proofs.ItemLemmas.{item_is_indented_line}
use Rattle.rl_report.proofs.PlainPart.{plain_part-line, plain_part-indented}
use Rattle.rl_weave_laws.specs.Runs.{with_event}
use Rattle.rl_weave_log.specs.WeaveLog.{line_at_end, step_text}
use Rattle.rl_weave_laws.specs.Groups.{event_lines}

-- ---- the line of an event

abbrev model_of : ChipData → LayoutData → MirrorData → List Gathered → ModelData
model_of c l mirror gathered = record { chip = c; layout = l; mirror = mirror; gathered = gathered }

-- a text tells nothing of the mirror
op_same : (c : ChipData) (l : LayoutData) (m n : MirrorData) (a b : List Gathered) (o : Op)
    → op_text (model_of c l m a) o ≡ op_text (model_of c l n b) o
op_same c l m n a b (op.Write reg map value) = refl
op_same c l m n a b _ = refl

line_by : (c : ChipData) (l : LayoutData) (m n : MirrorData) (a b : List Gathered) (e : Event)
    → event_line (model_of c l m a) e ≡ event_line (model_of c l n b) e
unfolding event_line
line_by c l m n a b e = ap (λ t. joined (t ∷ result_text c e ∷ codes "\n" ∷ [])) (op_same c l m n a b e.op)

pub line_same : (m n : ModelData) (e : Event) → n.chip ≡ m.chip → n.layout ≡ m.layout → event_line n e ≡ event_line m e
line_same m n e chip layout =
    ap (λ c. event_line (model_of c n.layout n.mirror n.gathered) e) chip
    ∙ ap (λ l. event_line (model_of m.chip l n.mirror n.gathered) e) layout
    ∙ line_by m.chip m.layout n.mirror m.mirror n.gathered m.gathered e

-- nor of items
pub bare_line : (m : ModelData) (e : Event) → event_line m (without_items e) ≡ event_line m e
unfolding event_line
bare_line m e = refl

pub bare_lines : (m : ModelData) (es : List Event) → event_lines m (map without_items es) ≡ event_lines m es
bare_lines m [] = refl
bare_lines m (e ∷ es) = ap (λ l. l ∷ event_lines m (map without_items es)) (bare_line m e) ∙ ap (λ ls. event_line m e ∷ ls) (bare_lines m es)

-- ---- the text of a word

pub lines_on : (m : ModelData) (end : Option Event) (es : List Event)
    → concat (event_lines m (with_event end es)) ≡ concat (event_lines m (with_event end [])) ++ concat (event_lines m es)
lines_on m None es = refl
lines_on m (Some e) es = ap (λ l. l ++ concat (event_lines m es)) (sym (append-nil (event_line m e)))

module _ (m : ModelData) (chip : IsSound m.chip) (names : HasNames m.chip m.layout) where
  end_left : (end : Option Event) (rest : List ℕ)
      → plain_part (line_at_end m end ++ rest) ≡ concat (event_lines m (with_event end [])) ++ plain_part rest
  end_left None rest = refl
  end_left (Some e) rest =
      plain_part-line (event_line m e) rest (event_is_line m chip names e)
      ∙ ap (λ l. l ++ plain_part rest) (sym (append-nil (event_line m e)))

  pub step_left : (item : TraceItem) (end : Option Event) (rest : List ℕ)
      → plain_part (step_text m item end ++ rest) ≡ concat (event_lines m (with_event end [])) ++ plain_part rest
  step_left item end rest =
      ap plain_part (append_assoc (item_line m.layout item) (line_at_end m end) rest)
      ∙ plain_part-indented (item_line m.layout item) (line_at_end m end ++ rest) (item_is_indented_line m names item)
      ∙ end_left end rest

pub lines_same : (m n : ModelData) (es : List Event) → n.chip ≡ m.chip → n.layout ≡ m.layout → event_lines n es ≡ event_lines m es
lines_same m n [] chip layout = refl
lines_same m n (e ∷ es) chip layout =
    ap (λ l. l ∷ event_lines n es) (line_same m n e chip layout) ∙ ap (λ ls. event_line m e ∷ ls) (lines_same m n es chip layout)

-- with the model after the word, of the same chip and layout
pub word_left : (m n : ModelData) (item : TraceItem) (end : Option Event) (rest : List ℕ) → IsSound m.chip
    → HasNames m.chip m.layout → n.chip ≡ m.chip → n.layout ≡ m.layout
    → plain_part (step_text n item end ++ rest) ≡ concat (event_lines m (with_event end [])) ++ plain_part rest
word_left m n item end rest sound names chip layout =
    let here = subst IsSound (sym chip) sound in
    let named : HasNames n.chip n.layout = subst (λ c. HasNames c n.layout) (sym chip) (subst (HasNames m.chip) (sym layout) names) in
    step_left n here named item end rest
    ∙ ap (λ ls. concat ls ++ plain_part rest) (lines_same m n (with_event end []) chip layout)
