-- Flaw by flaw through a list, to the answers of a share.
use Rattle.std.proofs.Common.{◌≡◌, ℕ, ◌+◌, Bool, true, false, if◌then◌else◌, List, [], ◌∷◌, ◌++◌, map, All, sym, ap, ◌∙◌, append_assoc, append-nil, arith}
use Rattle.std.proofs.lemmas.List.Elements.{All-cons, All-map, All-nil, All-tail}
use Rattle.rl_flaw.specs.declared.flaw.Flaw.{Flaw}
use Rattle.rl_desc.specs.Data.{DescData}
use Rattle.rl_grade.specs.declared.grade.Graded.{Graded}
use Rattle.rl_grade.specs.declared.grade.Share.{Share}
use Rattle.rl_grade.specs.declared.job.Task.{Task}
use Rattle.rl_grade.specs.declared.seen.Seen.{Seen}
use Rattle.rl_grade.specs.Share.{graded_by, grades_of, is_in_share, share_of}

module _ (d : DescData) (tasks : List Task) (shown : List Seen) (share : Share) where
  abbrev left : ℕ → List Flaw → List Graded
  left before flaws = grades_of d tasks shown share before flaws

  pub flaw_taken : (again : DescData) (before number : ℕ) (flaw : Flaw) (from rest : List Flaw) (done new all : List Graded)
      → again ≡ d → from ≡ flaw ∷ rest → number ≡ before + 1 → is_in_share share number ≡ true
      → new ≡ done ++ graded_by again tasks shown flaw ∷ [] → done ++ left before from ≡ all → new ++ left number rest ≡ all
  flaw_taken again before number flaw from rest done new all same is next taken tried h =
      let more = tried ∙ ap (λ x. done ++ graded_by x tasks shown flaw ∷ []) same in
      let others = share_of share (before + 1) rest in
      ap (λ n. new ++ left n rest) next ∙ ap (λ gs. gs ++ left (before + 1) rest) more
      ∙ append_assoc done (graded_by d tasks shown flaw ∷ []) (left (before + 1) rest)
      ∙ sym (ap (λ fs. done ++ left before fs) is
      ∙ ap (λ b. done ++ map (graded_by d tasks shown) (if b then flaw ∷ others else others)) (ap (is_in_share share) (sym next) ∙ taken)) ∙ h

  pub flaw_passed : (before number : ℕ) (flaw : Flaw) (from rest : List Flaw) (done new all : List Graded)
      → from ≡ flaw ∷ rest → number ≡ before + 1 → is_in_share share number ≡ false → new ≡ done
      → done ++ left before from ≡ all → new ++ left number rest ≡ all
  flaw_passed before number flaw from rest done new all is next passed same h =
      let others = share_of share (before + 1) rest in
      ap (λ n. new ++ left n rest) next ∙ ap (λ gs. gs ++ left (before + 1) rest) same
      ∙ sym (ap (λ fs. done ++ left before fs) is
      ∙ ap (λ b. done ++ map (graded_by d tasks shown) (if b then flaw ∷ others else others)) (ap (is_in_share share) (sym next) ∙ passed)) ∙ h

  -- where none is left
  pub flaws_end : (before : ℕ) (from : List Flaw) (done all : List Graded) → from ≡ [] → done ++ left before from ≡ all → done ≡ all
  flaws_end before from done all none h = sym (append-nil done) ∙ sym (ap (λ fs. done ++ left before fs) none) ∙ h

-- ---- what holds of each flaw of a list holds of those of a share

module _ (P : Flaw → Type 0) where
  taken_if : (b : Bool) (flaw : Flaw) (flaws : List Flaw) → P flaw → All P flaws → All P (if b then flaw ∷ flaws else flaws)
  taken_if true flaw flaws here others = All-cons P flaw flaws here others
  taken_if false flaw flaws here others = others

  pub shared : (share : Share) (before : ℕ) (flaws : List Flaw) → All P flaws → All P (share_of share before flaws)
  shared share before [] each = All-nil P
  shared share before (flaw ∷ flaws) each =
      taken_if (is_in_share share (before + 1)) flaw (share_of share (before + 1) flaws) (each 0 flaw (omega arith))
      (shared share (before + 1) flaws (All-tail P flaw flaws each))

  pub each_graded : (d : DescData) (tasks : List Task) (shown : List Seen) (share : Share) (before : ℕ) (flaws : List Flaw)
      → All P flaws → All (λ (g : Graded). P g.flaw) (grades_of d tasks shown share before flaws)
  each_graded d tasks shown share before flaws each =
      All-map (λ (g : Graded). P g.flaw) (graded_by d tasks shown) (share_of share before flaws) (shared share before flaws each)
