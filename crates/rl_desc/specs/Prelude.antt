-- The words that the contracts of this crate's readers use, passed on from one place. Declares nothing.
pub use Rattle.rl_desc.specs.Columns.{optional, held, held_or, rows_at, row_fault, column_fault, top_columns, flaw_columns}
pub use Rattle.rl_desc.specs.Columns.{reg_body_columns, field_check_columns, mem_body_columns, map_way_columns}
pub use Rattle.rl_desc.specs.Reading.{document_fault, document_data, is_writable, counts_words, is_explicit, flaw_as}
pub use Rattle.rl_desc.specs.Reading.{scope_fault, reg_fault, field_fault, mem_fault, map_fault, place_fault, flaw_fault}
pub use Rattle.rl_desc.specs.Reading.{scope_of, reg_of, field_of, mem_of, map_of, place_of, flaw_of}
pub use Rattle.rl_desc.specs.Refusals.{Reads, ReadsAs, at_spot}
pub use Rattle.rl_desc.specs.Shapes.{Shape, text, truth, number, word, tables, exclusions, resets, excluded, kinds, hard_reset}
pub use Rattle.rl_desc.specs.Shapes.{are_tables, are_texts, may_be_numbers, tables_of}
pub use Rattle.rl_desc.specs.Words.{skip, access_named, predict_named}
