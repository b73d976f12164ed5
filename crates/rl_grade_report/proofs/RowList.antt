-- Rows that each say a flaw read back as these flaws.
use Rattle.std.proofs.Common.{◌≡◌, ℕ, suc, ◌+◌, ◌≤◌, true, false, nat_le, List, [], ◌∷◌, length, map, None, refl, ap, arith}
use Rattle.std.proofs.lemmas.Bool.Decides.{nat_tests}
use Rattle.toml.specs.Data.{Members}
use Rattle.rl_model.specs.declared.fault.Array.TheVariants as arrays
use Rattle.rl_model.specs.declared.fault.Spot.{Spot}
use Rattle.rl_flaw.specs.declared.flaw.Flaw.{Flaw}
use Rattle.rl_desc.specs.Data.{DescData}
use Rattle.rl_desc.specs.Columns.{first_from}
use Rattle.rl_desc.specs.Shapes.{are_tables, tables_of}
use Rattle.rl_desc.specs.Flaws.{flaws_fault, flaws_of}
use Rattle.rl_desc.specs.Reading.{flaw_fault, document_fault, flaw_of as part_of}
use Rattle.rl_grade_report.specs.RowLaw.{ReadsBack}
use Rattle.rl_grade_report.proofs.RowText.{Rows, items_of, rows_document, rows_parsed}
use Rattle.rl_grade_report.proofs.RowSaid.{IsSaid}

abbrev pub AreSaid : DescData → List Members → List Flaw → Type 0
AreSaid d [] [] = Unit {0}
AreSaid d [] (f ∷ fs) = ⊥
AreSaid d (row ∷ rows) [] = ⊥
AreSaid d (row ∷ rows) (f ∷ fs) = IsSaid d row f × AreSaid d rows fs

-- ---- their form

all_tables : (rows : List Members) → are_tables (items_of rows) ≡ true
all_tables [] = refl
all_tables (row ∷ rows) = all_tables rows

tables_are : (rows : List Members) → tables_of (items_of rows) ≡ rows
tables_are [] = refl
tables_are (row ∷ rows) = ap (λ rs. row ∷ rs) (tables_are rows)

-- row i of the flaws
abbrev flaw_spot : ℕ → Spot
flaw_spot i = record { array = arrays.Flaw; row = i; field = None }

forms : (d : DescData) (rows : List Members) (flaws : List Flaw) (i : ℕ) → AreSaid d rows flaws
    → first_from i (λ i. flaw_fault (flaw_spot i)) rows ≡ None
forms d [] flaws i h = refl
forms d (row ∷ rows) [] i h = absurd h
forms d (row ∷ rows) (f ∷ fs) i h = rw (h.0.form (flaw_spot i)) (forms d rows fs (i + 1) h.1)

no_form_fault : (d : DescData) (rows : List Members) (flaws : List Flaw) → AreSaid d rows flaws → document_fault (rows_document rows) ≡ None
no_form_fault d [] flaws h = refl
no_form_fault d (row ∷ rows) flaws h = rw (all_tables rows, tables_are rows, forms d (row ∷ rows) flaws 0 h) refl

-- ---- what they say

count : (d : DescData) (rows : List Members) (flaws : List Flaw) → AreSaid d rows flaws → length (map part_of rows) ≡ length flaws
count d [] [] h = refl
count d [] (f ∷ fs) h = absurd h
count d (row ∷ rows) [] h = absurd h
count d (row ∷ rows) (f ∷ fs) h = ap suc (count d rows fs h.1)

says : (d : DescData) (rows : List Members) (flaws : List Flaw) → AreSaid d rows flaws → flaws_of d.chip d.layout (map part_of rows) ≡ flaws
says d [] [] h = refl
says d [] (f ∷ fs) h = absurd h
says d (row ∷ rows) [] h = absurd h
says d (row ∷ rows) (f ∷ fs) h = rw h.0.means (ap (λ l. f ∷ l) (says d rows fs h.1))

no_fault : (d : DescData) (rows : List Members) (flaws : List Flaw) (i : ℕ) → AreSaid d rows flaws → i + length flaws ≤ 256
    → flaws_fault d.chip d.layout i (map part_of rows) ≡ None
no_fault d [] flaws i h few = refl
no_fault d (row ∷ rows) [] i h few = absurd h
no_fault d (row ∷ rows) (f ∷ fs) i h few =
    let under : nat_le 256 i ≡ false = grind (arith, nat_tests) in
    rw (under, h.0.means) (no_fault d rows fs (i + 1) h.1 (omega (arith, few)))

pub reads_back : (d : DescData) (text : List ℕ) (rows : List Members) (flaws : List Flaw) → Rows text rows → AreSaid d rows flaws → ReadsBack d text flaws
reads_back d text [] [] written said = record {
  table = rows_document [];
  is_table = rows_parsed [] text written;
  has_form = refl;
  alone = refl;
  count = refl;
  says = refl;
  no_fault = λ few. refl;
}
reads_back d text [] (f ∷ fs) written said = absurd said
reads_back d text (row ∷ rows) flaws written said = record {
  table = rows_document (row ∷ rows);
  is_table = rows_parsed (row ∷ rows) text written;
  has_form = no_form_fault d (row ∷ rows) flaws said;
  alone = refl;
  count = rw (all_tables rows, tables_are rows) (count d (row ∷ rows) flaws said);
  says = rw (all_tables rows, tables_are rows) (says d (row ∷ rows) flaws said);
  no_fault = λ few. rw (all_tables rows, tables_are rows) (no_fault d (row ∷ rows) flaws 0 said (omega (arith, few)));
}
