-- What is left of a text without its indented lines.
use Rattle.std.proofs.Common.{◌≡◌, ℕ, ◌==◌, true, not, cond, if◌then◌else◌, List, [], ◌∷◌, ◌++◌, length, filter, inl, inr, refl, sym, ap, ◌∙◌, eqb-true}
use Rattle.std.specs.List.{concat}
use Rattle.std.proofs.lemmas.Bool.{cases_Bool, true≢false}
use Rattle.std.proofs.lemmas.List.{nil_from_length}
use Rattle.rl_report.specs.Lines.{onto_first}
use Rattle.rl_report.specs.WithoutItems.{ended_lines, is_indented, plain_part, is_one_line, IsLine, IsIndented}

-- a line in front is the first of the lines
cut_line : (line rest : List ℕ) → is_one_line line ≡ true → ended_lines (line ++ rest) ≡ line ∷ ended_lines rest
cut_line [] rest h = absurd (true≢false (sym h))
cut_line (b ∷ bs) rest h =
    elim (cases_Bool (b == 10)) [
      | inl ends ↦
          let alone : (length bs == 0) ≡ true = sym (ap (λ d. if d then length bs == 0 else is_one_line bs) ends) ∙ h in
          let empty : bs ≡ [] = nil_from_length bs (eqb-true _ _ alone) in
          rw ends (ap (λ bs. (b ∷ []) ∷ ended_lines (bs ++ rest)) empty ∙ ap (λ bs. (b ∷ bs) ∷ ended_lines rest) (sym empty))
      | inr within ↦
          let more : is_one_line bs ≡ true = sym (ap (λ d. if d then length bs == 0 else is_one_line bs) within) ∙ h in
          rw within (ap (onto_first b) (cut_line bs rest more))
    ]

-- a line that begins otherwise stays
pub plain_part-line : (line rest : List ℕ) → IsLine line → plain_part (line ++ rest) ≡ line ++ plain_part rest
unfolding plain_part
plain_part-line line rest h =
    ap (λ lines. concat (filter (λ line. not (is_indented line)) lines)) (cut_line line rest h.one)
    ∙ ap (λ d. concat (cond (not d) (line ∷ filter (λ line. not (is_indented line)) (ended_lines rest)) (filter (λ line. not (is_indented line)) (ended_lines rest)))) h.flush

-- an indented line goes
pub plain_part-indented : (line rest : List ℕ) → IsIndented line → plain_part (line ++ rest) ≡ plain_part rest
unfolding plain_part
plain_part-indented line rest h =
    ap (λ lines. concat (filter (λ line. not (is_indented line)) lines)) (cut_line line rest h.one)
    ∙ ap (λ d. concat (cond (not d) (line ∷ filter (λ line. not (is_indented line)) (ended_lines rest)) (filter (λ line. not (is_indented line)) (ended_lines rest)))) h.indented

pub plain_part-nil : plain_part [] ≡ []
unfolding plain_part
plain_part-nil = refl
