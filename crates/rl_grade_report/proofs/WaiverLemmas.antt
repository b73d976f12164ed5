-- The rows of a file of waivers, and whether they name flaws that are there.
use Rattle.std.proofs.Common.{◌≡◌, ℕ, ◌+◌, ◌<◌, ◌≤◌, Bool, true, false, cond, not, ◌||◌, ◌&&◌, inl, inr, List, [], ◌∷◌, ◌++◌, length, take, drop, get_or, append_assoc, append-nil, filter, Some, None, refl, sym, ap, ◌∙◌}
use Rattle.std.specs.List.{list_any}
use Rattle.std.specs.Str.{bytes_eq}
use Rattle.std.proofs.lemmas.Bool.{cases_Bool}
use Rattle.std.proofs.lemmas.List.{drop_all, drop_more, take_more}
use Rattle.std.proofs.lemmas.List.Folds.{list_any-append, list_any_more}
use Rattle.rl_flaw.specs.declared.flaw.Flaw.{Flaw}
use Rattle.rl_desc.specs.Data.{DescData}
use Rattle.rl_grade.specs.declared.place.Place.{Place}
use Rattle.rl_grade.specs.Place.{flaws_at}
use Rattle.rl_grade_report.specs.Row.{flaw_row}
use Rattle.rl_grade_report.specs.Waivers.{RowData, begun, ended, goes_on, has_text, row_text, rows_from}
use Rattle.rl_grade_report.specs.Waiving.{is_of, left_at, twice_behind, unknown_among, without}
use Rattle.rl_grade_report.specs.Whole.{flaws_over}
use Rattle.rl_grade_report.proofs.Parts.{flat_more}

-- ---- the text of a row

module _ (lines rest : List (List ℕ)) (line : List ℕ) (is : lines ≡ line ∷ rest) where
  text_by : row_text lines ≡ cond (goes_on line) (ended line ++ row_text rest) []
  unfolding row_text
  text_by = ap row_text is

  pub text_stops : goes_on line ≡ false → row_text lines ≡ []
  text_stops at = text_by ∙ ap (λ b. cond b (ended line ++ row_text rest) []) at

  -- with one line more
  pub text_goes_on : (row now all : List ℕ) → goes_on line ≡ true → now ≡ row ++ ended line → row ++ row_text lines ≡ all
      → now ++ row_text rest ≡ all
  text_goes_on row now all at grows same =
      ap (λ t. t ++ row_text rest) grows ∙ append_assoc row (ended line) (row_text rest)
      ∙ ap (λ t. row ++ t) (sym (text_by ∙ ap (λ b. cond b (ended line ++ row_text rest) []) at)) ∙ same

pub no_text : (lines : List (List ℕ)) → lines ≡ [] → row_text lines ≡ []
unfolding row_text
no_text lines is = ap row_text is

-- nothing is left
pub all_there : {X : Type 0} (some rest all : List X) → rest ≡ [] → some ++ rest ≡ all → some ≡ all
all_there some rest all none same = sym (append-nil some) ∙ ap (λ xs. some ++ xs) (sym none) ∙ same

-- ---- rows

-- with one line more
pub rows_on : (before : List ℕ) (number : ℕ) (lines rest : List (List ℕ)) (line : List ℕ) (rows now all : List RowData)
    → lines ≡ line ∷ rest → now ≡ rows ++ begun before number line rest → rows ++ rows_from before number lines ≡ all
    → now ++ rows_from line (number + 1) rest ≡ all
unfolding rows_from
rows_on before number lines rest line rows now all is grows same =
    ap (λ rs. rs ++ rows_from line (number + 1) rest) grows
    ∙ append_assoc rows (begun before number line rest) (rows_from line (number + 1) rest)
    ∙ ap (λ rs. rows ++ rs) (sym (ap (rows_from before number) is)) ∙ same

pub no_rows : (before : List ℕ) (number : ℕ) (lines : List (List ℕ)) → lines ≡ [] → rows_from before number lines ≡ []
unfolding rows_from
no_rows before number lines is = ap (rows_from before number) is

-- ---- each once

twice_by : (rows : List RowData) (k : ℕ) (d : RowData) → k < length rows
    → twice_behind (take k rows) (drop k rows)
    ≡ cond (has_text (take k rows) (get_or rows k d).text) (Some (get_or rows k d).line) (twice_behind (take (k + 1) rows) (drop (k + 1) rows))
unfolding twice_behind
twice_by rows k d low =
    let row = get_or rows k d in
    ap (twice_behind (take k rows)) (drop_more rows k d low)
    ∙ ap (λ before. cond (has_text (take k rows) row.text) (Some row.line) (twice_behind before (drop (k + 1) rows)))
    (sym (take_more rows k d low))

pub row_twice : (rows : List RowData) (k : ℕ) (d : RowData) → k < length rows → has_text (take k rows) (get_or rows k d).text ≡ true
    → twice_behind (take k rows) (drop k rows) ≡ Some (get_or rows k d).line
row_twice rows k d low at =
    twice_by rows k d low
    ∙ ap (λ b. cond b (Some (get_or rows k d).line) (twice_behind (take (k + 1) rows) (drop (k + 1) rows))) at

pub row_once : (rows : List RowData) (k : ℕ) (d : RowData) → k < length rows → has_text (take k rows) (get_or rows k d).text ≡ false
    → twice_behind (take k rows) (drop k rows) ≡ twice_behind (take (k + 1) rows) (drop (k + 1) rows)
row_once rows k d low at =
    twice_by rows k d low
    ∙ ap (λ b. cond b (Some (get_or rows k d).line) (twice_behind (take (k + 1) rows) (drop (k + 1) rows))) at

pub none_twice : (rows : List RowData) (k : ℕ) → length rows ≤ k → twice_behind (take k rows) (drop k rows) ≡ None
unfolding twice_behind
none_twice rows k few = ap (twice_behind (take k rows)) (drop_all k rows few)

-- ---- of a flaw

nor : (a b : Bool) → not (a || b) ≡ (not a && not b)
nor true b = refl
nor false b = refl

-- a filter of what another one kept
filter_and : {X : Type 0} (p q both : X → Bool) → ((x : X) → both x ≡ (p x && q x)) → (xs : List X)
    → filter q (filter p xs) ≡ filter both xs
filter_and p q both is [] = refl
filter_and p q both is (x ∷ xs) =
    let some = filter p xs in
    let all = filter both xs in
    let same = filter_and p q both is xs in
    elim (cases_Bool (p x)) [
      | inl at ↦
          ap (λ b. filter q (cond b (x ∷ some) some)) at ∙ ap (λ ys. cond (q x) (x ∷ ys) ys) same
          ∙ sym (ap (λ b. cond b (x ∷ all) all) (is x ∙ ap (λ b. b && q x) at))
      | inr at ↦
          ap (λ b. filter q (cond b (x ∷ some) some)) at ∙ same
          ∙ sym (ap (λ b. cond b (x ∷ all) all) (is x ∙ ap (λ b. b && q x) at))
    ]

module _ (d : DescData) where
  abbrev is_its : RowData → Flaw → Bool
  is_its row flaw = bytes_eq row.text (flaw_row d.chip d.layout flaw)

  pub unknown_none : (rows : List RowData) → unknown_among d [] rows ≡ rows
  unknown_none [] = refl
  unknown_none (row ∷ rows) = ap (λ rs. row ∷ rs) (unknown_none rows)

  pub unknown_more : (flaws : List Flaw) (k : ℕ) (e : Flaw) (rows : List RowData) → k < length flaws
      → without (flaw_row d.chip d.layout (get_or flaws k e)) (unknown_among d (take k flaws) rows)
      ≡ unknown_among d (take (k + 1) flaws) rows
  unknown_more flaws k e rows low =
      filter_and (λ row. not (is_of d (take k flaws) row)) (λ row. not (is_its row (get_or flaws k e)))
      (λ row. not (is_of d (take (k + 1) flaws) row))
      (λ row. ap not (list_any_more (is_its row) flaws k e low)
      ∙ nor (list_any (is_its row) (take k flaws)) (is_its row (get_or flaws k e))) rows

  unknown_both : (xs ys : List Flaw) (rows : List RowData)
      → unknown_among d ys (unknown_among d xs rows) ≡ unknown_among d (xs ++ ys) rows
  unknown_both xs ys rows =
      filter_and (λ row. not (is_of d xs row)) (λ row. not (is_of d ys row)) (λ row. not (is_of d (xs ++ ys) row))
      (λ row. ap not (list_any-append (is_its row) xs ys) ∙ nor (list_any (is_its row) xs) (list_any (is_its row) ys)) rows

  pub left_more : (items : ℕ) (places : List Place) (k : ℕ) (e : Place) (rows : List RowData) → k < length places
      → unknown_among d (flaws_at d items (get_or places k e)) (left_at d items (take k places) rows)
      ≡ left_at d items (take (k + 1) places) rows
  left_more items places k e rows low =
      unknown_both (flaws_over d items (take k places)) (flaws_at d items (get_or places k e)) rows
      ∙ ap (λ fs. unknown_among d fs rows)
      (sym (ap (flaws_over d items) (take_more places k e low) ∙ flat_more (flaws_at d items) (take k places) (get_or places k e)))
