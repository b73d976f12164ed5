-- A description as a whole: the first condition that fails, and what it describes where none does.
use Rattle.std.specs.Prelude.{ℕ, if◌then◌else◌, List, [], ◌∷◌, Option, Some, None, option_map}
use Rattle.std.specs.Str.{is_utf8}
use Rattle.toml.specs.Data.{Members}
use Rattle.toml.specs.Parse.{parse_document}
use Rattle.rl_model.specs.Build.{chip_of, chip_fault}
use Rattle.rl_bus.specs.declared.op.AdapterKind.{AdapterKind}
use Rattle.rl_map.specs.Maps.{layout_of}
use Rattle.rl_map.specs.Faults.{layout_fault}
use Rattle.rl_desc.specs.declared.fault.DescCause.TheVariants.{Text}
use Rattle.rl_desc.specs.declared.fault.DescFault.{DescFault}
use Rattle.rl_desc.specs.declared.fault.DescFault.TheVariants.{Bad}
use Rattle.rl_desc.specs.Faults.{of_model, of_map}
use Rattle.rl_desc.specs.Data.{DocumentData, DescData}
use Rattle.rl_desc.specs.Refusals.{or_else, first}
use Rattle.rl_desc.specs.Reading.{document_fault, document_data}
use Rattle.rl_desc.specs.Flaws.{flaws_fault, flaws_of}

-- what rows describe, where they have no fault
unfoldable pub described : DocumentData → List AdapterKind → DescData
described rows kinds =
    let chip = chip_of rows.parts in
    let layout = layout_of chip rows.maps rows.places kinds in
    record { chip = chip; layout = layout; flaws = flaws_of chip layout rows.flaws }

-- the first fault of rows whose form is right: of the chip, then of the layout, then of the flaws
unfoldable pub rows_fault : DocumentData → List AdapterKind → Option DescFault
rows_fault rows kinds =
    let chip = chip_of rows.parts in
    let layout = layout_of chip rows.maps rows.places kinds in
    first
    (option_map of_model (chip_fault rows.parts) ∷ option_map of_map (layout_fault chip rows.maps rows.places kinds)
    ∷ flaws_fault chip layout 0 rows.flaws ∷ [])

-- the table that the bytes are, where they are UTF-8 and TOML
abbrev pub document_of : List ℕ → Option Members
document_of bytes = if is_utf8 bytes then parse_document bytes else None

abbrev pub text_fault : Option Members → List AdapterKind → Option DescFault
text_fault None kinds = Some (Bad Text None)
text_fault (Some doc) kinds = or_else (document_fault doc) (rows_fault (document_data doc) kinds)

-- the first condition that fails in a description
unfoldable pub first_fault : List ℕ → List AdapterKind → Option DescFault
first_fault bytes kinds = text_fault (document_of bytes) kinds

-- what a description describes, where it is TOML and no condition fails
unfoldable pub description_of : List ℕ → List AdapterKind → Option DescData
description_of bytes kinds = option_map (λ doc. described (document_data doc) kinds) (document_of bytes)
