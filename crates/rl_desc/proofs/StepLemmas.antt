-- The steps of a description, one after the other.
use Rattle.std.proofs.Common.{◌≡◌, ◌≢◌, ℕ, List, Option, Some, None, Result, Ok, Err, refl, sym, ap, ◌∙◌}
use Rattle.std.specs.Prelude.{IfOk, IfErr, IsErr, IsErrAnd}
use Rattle.toml.specs.Data.{Members}
use Rattle.rl_model.specs.declared.fault.ModelFault.{ModelFault}
use Rattle.rl_model.specs.declared.fault.ModelFault.TheVariants as model
use Rattle.rl_model.specs.Rules as rules
use Rattle.rl_model.specs.Build.{chip_of, chip_fault}
use Rattle.rl_bus.specs.declared.op.AdapterKind.{AdapterKind}
use Rattle.rl_map.specs.declared.fault.MapFault.{MapFault}
use Rattle.rl_map.specs.declared.fault.MapFault.TheVariants as maps
use Rattle.rl_model.specs.Rows.{ChipData}
use Rattle.rl_map.specs.Layout.{LayoutData}
use Rattle.rl_flaw.specs.declared.flaw.Flaw.{Flaw}
use Rattle.rl_map.specs.Maps.{layout_of}
use Rattle.rl_map.specs.Faults as faults
use Rattle.rl_map.specs.Faults.{layout_fault}
use Rattle.rl_desc.specs.declared.fault.DescFault.{DescFault}
use Rattle.rl_desc.specs.declared.fault.DescFault.TheVariants.{Memory}
use Rattle.rl_desc.specs.Data.{DocumentData, DescData}
use Rattle.rl_desc.specs.Refusals.{Fails, Reads}
use Rattle.rl_desc.specs.Faults.{of_model, of_map}
use Rattle.rl_desc.specs.Reading.{document_fault, document_data}
use Rattle.rl_desc.specs.Flaws.{flaws_fault, flaws_of}
use Rattle.rl_desc.proofs.FirstLemmas.{later, here}
use Rattle.rl_desc.specs.Described.{described, rows_fault, document_of, first_fault, description_of}

pub model_err : (e : ModelFault) (rows : DocumentData) (kinds : List AdapterKind) → rules.Fails e (chip_fault rows.parts)
    → Fails (of_model e) (rows_fault rows kinds)
unfolding rows_fault
model_err (model.Bad cause spot) rows kinds h = λ _. rw (h (λ same. cc))
model_err model.Memory rows kinds h = λ other. absurd (other refl)

pub map_err : (e : MapFault) (rows : DocumentData) (kinds : List AdapterKind) → chip_fault rows.parts ≡ None
    → faults.Fails e (layout_fault (chip_of rows.parts) rows.maps rows.places kinds) → Fails (of_map e) (rows_fault rows kinds)
unfolding rows_fault
map_err (maps.Bad cause spot) rows kinds none h = λ _. rw (none, h (λ same. cc))
map_err maps.Memory rows kinds none h = λ other. absurd (other refl)

pub flaws_err : (e : DescFault) (rows : DocumentData) (kinds : List AdapterKind) → chip_fault rows.parts ≡ None
    → layout_fault (chip_of rows.parts) rows.maps rows.places kinds ≡ None
    → Fails e (flaws_fault (chip_of rows.parts) (layout_of (chip_of rows.parts) rows.maps rows.places kinds) 0 rows.flaws)
    → Fails e (rows_fault rows kinds)
unfolding rows_fault
flaws_err e rows kinds none no_layout h = λ other. rw (none, no_layout, h other)

pub no_fault : (rows : DocumentData) (kinds : List AdapterKind) → chip_fault rows.parts ≡ None
    → layout_fault (chip_of rows.parts) rows.maps rows.places kinds ≡ None
    → flaws_fault (chip_of rows.parts) (layout_of (chip_of rows.parts) rows.maps rows.places kinds) 0 rows.flaws ≡ None
    → rows_fault rows kinds ≡ None
unfolding rows_fault
no_fault rows kinds chip layout flaws = rw (chip, layout, flaws)

-- ---- the text

pub text_valid : (r : Result DescData DescFault) (bytes : List ℕ) (doc : Members) (kinds : List AdapterKind) → document_of bytes ≡ Some doc
    → document_fault doc ≡ None → Reads (λ d. d) r (rows_fault (document_data doc) kinds) (described (document_data doc) kinds)
    → IfOk r (λ _. first_fault bytes kinds ≡ None)
unfolding first_fault
text_valid (Ok x) bytes doc kinds is none h = rw (is, none) h.0
text_valid (Err e) bytes doc kinds is none h = tt

pub text_read : (r : Result DescData DescFault) (bytes : List ℕ) (doc : Members) (kinds : List AdapterKind) → document_of bytes ≡ Some doc
    → Reads (λ d. d) r (rows_fault (document_data doc) kinds) (described (document_data doc) kinds)
    → IfOk r (λ d. description_of bytes kinds ≡ Some d)
unfolding description_of
text_read (Ok x) bytes doc kinds is h = rw (is, h.1)
text_read (Err e) bytes doc kinds is h = tt

pub text_refused : (r : Result DescData DescFault) (bytes : List ℕ) (doc : Members) (kinds : List AdapterKind) → document_of bytes ≡ Some doc
    → document_fault doc ≡ None → Reads (λ d. d) r (rows_fault (document_data doc) kinds) (described (document_data doc) kinds)
    → IfErr r (λ e. e ≢ Memory → first_fault bytes kinds ≡ Some e)
unfolding first_fault
text_refused (Ok x) bytes doc kinds is none h = tt
text_refused (Err e) bytes doc kinds is none h = λ other. rw (is, none) (h other)

-- a fault of the document's form is the first
pub text_faulty : (e : DescFault) (bytes : List ℕ) (doc : Members) (kinds : List AdapterKind) → document_of bytes ≡ Some doc
    → Fails e (document_fault doc) → e ≢ Memory → first_fault bytes kinds ≡ Some e
unfolding first_fault
text_faulty e bytes doc kinds is h other = rw (is, h other)

-- ---- what was built

abbrev desc : ChipData → LayoutData → List Flaw → DescData
desc chip layout flaws = record { chip = chip; layout = layout; flaws = flaws }

pub built : (rows : DocumentData) (kinds : List AdapterKind) (chip : ChipData) (layout : LayoutData) (flaws : List Flaw)
    → chip_fault rows.parts ≡ None → chip ≡ chip_of rows.parts
    → layout_fault chip rows.maps rows.places kinds ≡ None → layout ≡ layout_of chip rows.maps rows.places kinds
    → flaws_fault chip layout 0 rows.flaws ≡ None → flaws ≡ flaws_of chip layout rows.flaws
    → (rows_fault rows kinds ≡ None) × (desc chip layout flaws ≡ described rows kinds)
unfolding described
built rows kinds chip layout flaws sound chip_is placed layout_is clean flaws_is =
    let the_chip : ChipData = chip_of rows.parts in
    let the_layout : LayoutData = layout_of the_chip rows.maps rows.places kinds in
    let l : layout ≡ the_layout = layout_is ∙ ap (λ (x : ChipData). layout_of x rows.maps rows.places kinds) chip_is in
    let f : flaws ≡ flaws_of the_chip the_layout rows.flaws =
    flaws_is ∙ (ap (λ (x : ChipData). flaws_of x layout rows.flaws) chip_is ∙ ap (λ (x : LayoutData). flaws_of the_chip x rows.flaws) l) in
    let none : layout_fault the_chip rows.maps rows.places kinds ≡ None =
    sym (ap (λ (x : ChipData). layout_fault x rows.maps rows.places kinds) chip_is) ∙ placed in
    let last : flaws_fault the_chip the_layout 0 rows.flaws ≡ None =
    sym (ap (λ (x : ChipData). flaws_fault x layout 0 rows.flaws) chip_is ∙ ap (λ (x : LayoutData). flaws_fault the_chip x 0 rows.flaws) l) ∙ clean in (
      no_fault rows kinds sound none last,
      ap (λ (x : ChipData). desc x layout flaws) chip_is
          ∙ (ap (λ (x : LayoutData). desc the_chip x flaws) l ∙ ap (λ (x : List Flaw). desc the_chip the_layout x) f),
    )

-- a fault of the layout of a chip that was built
pub map_stops : (e : MapFault) (rows : DocumentData) (kinds : List AdapterKind) (chip : ChipData) → chip_fault rows.parts ≡ None
    → chip ≡ chip_of rows.parts → faults.Fails e (layout_fault chip rows.maps rows.places kinds) → Fails (of_map e) (rows_fault rows kinds)
map_stops e rows kinds chip sound chip_is h =
    map_err e rows kinds sound (λ other. sym (ap (λ (x : ChipData). layout_fault x rows.maps rows.places kinds) chip_is) ∙ h other)

-- a fault of the flaws of what was built
pub flaws_stop : (e : DescFault) (rows : DocumentData) (kinds : List AdapterKind) (chip : ChipData) (layout : LayoutData) → chip_fault rows.parts ≡ None
    → chip ≡ chip_of rows.parts → layout_fault chip rows.maps rows.places kinds ≡ None → layout ≡ layout_of chip rows.maps rows.places kinds
    → Fails e (flaws_fault chip layout 0 rows.flaws) → Fails e (rows_fault rows kinds)
flaws_stop e rows kinds chip layout sound chip_is placed layout_is h =
    let the_chip : ChipData = chip_of rows.parts in
    let l : layout ≡ layout_of the_chip rows.maps rows.places kinds = layout_is ∙ ap (λ (x : ChipData). layout_of x rows.maps rows.places kinds) chip_is in
    let none : layout_fault the_chip rows.maps rows.places kinds ≡ None =
    sym (ap (λ (x : ChipData). layout_fault x rows.maps rows.places kinds) chip_is) ∙ placed in
    flaws_err e rows kinds sound none (λ other.
    sym (ap (λ (x : ChipData). flaws_fault x layout 0 rows.flaws) chip_is ∙ ap (λ (x : LayoutData). flaws_fault the_chip x 0 rows.flaws) l) ∙ h other)

-- a description of a chip and a layout that were built, with flaws that were read or refused
pub described_by : (r : Result DescData DescFault) (rows : DocumentData) (kinds : List AdapterKind) (chip : ChipData) (layout : LayoutData)
    → chip_fault rows.parts ≡ None → chip ≡ chip_of rows.parts
    → layout_fault chip rows.maps rows.places kinds ≡ None → layout ≡ layout_of chip rows.maps rows.places kinds
    → IfOk r (λ d. d.chip ≡ chip) → IfOk r (λ d. d.layout ≡ layout)
    → Reads (λ d. d.flaws) r (flaws_fault chip layout 0 rows.flaws) (flaws_of chip layout rows.flaws)
    → Reads (λ d. d) r (rows_fault rows kinds) (described rows kinds)
described_by (Ok d) rows kinds chip layout sound chip_is placed layout_is of_chip of_layout flaws =
    let (none, same) = built rows kinds chip layout d.flaws sound chip_is placed layout_is flaws.0 flaws.1 in
    (none, ap (λ (x : ChipData). desc x d.layout d.flaws) of_chip ∙ (ap (λ (x : LayoutData). desc chip x d.flaws) of_layout ∙ same))
described_by (Err e) rows kinds chip layout sound chip_is placed layout_is of_chip of_layout flaws =
    flaws_stop e rows kinds chip layout sound chip_is placed layout_is flaws

-- what holds of a chip and its layout holds of a description that has them
pub has_both : (P : ChipData → LayoutData → Type 0) (r : Result DescData DescFault) (chip : ChipData) (layout : LayoutData)
    → IfOk r (λ d. d.chip ≡ chip) → IfOk r (λ d. d.layout ≡ layout) → P chip layout → IfOk r (λ d. P d.chip d.layout)
has_both P (Ok d) chip layout of_chip of_layout holds = rw (of_chip, of_layout) holds
has_both P (Err e) chip layout of_chip of_layout holds = tt

-- ---- what a `?` hands on

pub stops : {X Y : Type 0} (view : X → Y) (r : Result X DescFault) (e : DescFault) (fault : Option DescFault) (y : Y)
    → IsErr r × IsErrAnd r (λ x. x ≡ e) → Fails e fault → Reads view r fault y
stops view (Ok x) e fault y h fails = absurd h.1
stops view (Err x) e fault y h fails = rw h.1 fails

-- a reader of steps, one after the other, hands on the first fault
pub ruleset by_steps = (stops, later, here)

pub text_stops : (r : Result DescData DescFault) (e : DescFault) (bytes : List ℕ) (kinds : List AdapterKind) → IsErr r × IsErrAnd r (λ x. x ≡ e)
    → (e ≢ Memory → first_fault bytes kinds ≡ Some e) → IfErr r (λ x. x ≢ Memory → first_fault bytes kinds ≡ Some x)
text_stops (Ok x) e bytes kinds h fails = tt
text_stops (Err x) e bytes kinds h fails = rw h.1 fails
