-- The rows of a description, from those of its arrays.
use Rattle.std.proofs.Common.{◌≡◌, [], ◌∷◌, None, Result, Ok, Err, sym, ap, ◌∙◌}
use Rattle.toml.specs.Data.{Members}
use Rattle.rl_model.specs.declared.fault.Array.TheVariants as arrays
use Rattle.rl_desc.specs.declared.fault.DescFault.{DescFault}
use Rattle.rl_desc.specs.declared.fault.Rows.TheVariants.{Array}
use Rattle.rl_desc.specs.declared.key.Key.TheVariants as key
use Rattle.rl_desc.specs.Arrays.{ArrayRows, rows_of, rows_fault, rows_data}
use Rattle.rl_desc.specs.Columns.{in_rows, row_fault, rows_at, top_columns}
use Rattle.rl_desc.specs.Data.{DocumentData}
use Rattle.rl_desc.specs.Reading.{scope_fault, reg_fault, mem_fault, map_fault, place_fault, flaw_fault, document_fault, document_data}
use Rattle.rl_desc.specs.Refusals.{or_else, Reads}
use Rattle.rl_desc.proofs.FirstLemmas.{later, first-append}

-- the rows of the chip's arrays come first
document_fault-rows : (doc : Members) → document_fault doc ≡ or_else (row_fault top_columns None doc) (rows_fault (rows_of doc))
document_fault-rows doc =
    ap (or_else (row_fault top_columns None doc)) (
    first-append
    (in_rows (Array arrays.Block) scope_fault (rows_at key.Block doc) ∷ in_rows (Array arrays.File) scope_fault (rows_at key.File doc)
    ∷ in_rows (Array arrays.Reg) reg_fault (rows_at key.Reg doc) ∷ in_rows (Array arrays.Mem) mem_fault (rows_at key.Mem doc) ∷ [])
    (in_rows (Array arrays.Map) map_fault (rows_at key.Map doc) ∷ in_rows (Array arrays.Place) place_fault (rows_at key.Place doc)
    ∷ in_rows (Array arrays.Flaw) flaw_fault (rows_at key.Flaw doc) ∷ [])
    )

-- a description whose arrays are as they should be says what their rows say
pub document_reads : (r : Result DocumentData DescFault) (doc : Members) (rows : ArrayRows) → row_fault top_columns None doc ≡ None
    → rows ≡ rows_of doc → Reads (λ d. d) r (rows_fault rows) (rows_data rows) → Reads (λ d. d) r (document_fault doc) (document_data doc)
document_reads (Ok d) doc rows none same h =
    (document_fault-rows doc ∙ later none (sym (ap rows_fault same) ∙ h.0), h.1 ∙ ap rows_data same)
document_reads (Err e) doc rows none same h = λ other. document_fault-rows doc ∙ later none (sym (ap rows_fault same) ∙ h other)
