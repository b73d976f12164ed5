-- Loops over the flaws of places, and over what is known of them.
use Rattle.std.proofs.Common.{◌≡◌, ℕ, ◌+◌, Bool, true, false, if◌then◌else◌, List, [], ◌∷◌, ◌++◌, length, map, All, Option, Some, None, IfSome, IfOk, Result, Ok, Err, refl, sym, ap, subst, ◌∙◌, append_assoc, append-nil}
use Rattle.std.specs.Prelude.{Contains, slice_index_or}
use Rattle.std.proofs.lemmas.List.Concat.{flat_map-cons}
use Rattle.std.proofs.lemmas.List.Elements.{All-append, All-cons, All-contains, All-nil, All-tail}
use Rattle.rl_flaw.specs.declared.flaw.Flaw.{Flaw}
use Rattle.rl_flaw.specs.Flaws.{IsFlawOf}
use Rattle.rl_desc.specs.Data.{DescData}
use Rattle.rl_grade.specs.declared.grade.Graded.{Graded}
use Rattle.rl_grade.specs.declared.grade.Share.{Share}
use Rattle.rl_grade.specs.declared.grade.Tries.{Tries}
use Rattle.rl_grade.specs.declared.job.Task.{Task}
use Rattle.rl_grade.specs.declared.place.Place.{Place}
use Rattle.rl_grade.specs.declared.seen.Seen.{Seen}
use Rattle.rl_grade.specs.Batch.{AreAnswers, AreKnown, flaw_at, flaws_of_places}
use Rattle.rl_grade.specs.Place.{flaws_at}
use Rattle.rl_grade.specs.Share.{graded_by, is_in_share, share_of}
use Rattle.rl_grade.specs.Sorted.{IsBlank}

-- ---- the flaws of a share

module _ (share : Share) where
  pub share_taken : (before number : ℕ) (flaw : Flaw) (from rest done new all : List Flaw)
      → from ≡ flaw ∷ rest → number ≡ before + 1 → is_in_share share number ≡ true → new ≡ done ++ flaw ∷ []
      → done ++ share_of share before from ≡ all → new ++ share_of share number rest ≡ all
  share_taken before number flaw from rest done new all is next taken grown h =
      let others = share_of share (before + 1) rest in
      ap (λ n. new ++ share_of share n rest) next ∙ ap (λ fs. fs ++ others) grown ∙ append_assoc done (flaw ∷ []) others
      ∙ sym (ap (λ fs. done ++ share_of share before fs) is
      ∙ ap (λ b. done ++ (if b then flaw ∷ others else others)) (ap (is_in_share share) (sym next) ∙ taken)) ∙ h

  pub share_passed : (before number : ℕ) (flaw : Flaw) (from rest done new all : List Flaw)
      → from ≡ flaw ∷ rest → number ≡ before + 1 → is_in_share share number ≡ false → new ≡ done
      → done ++ share_of share before from ≡ all → new ++ share_of share number rest ≡ all
  share_passed before number flaw from rest done new all is next passed same h =
      let others = share_of share (before + 1) rest in
      ap (λ n. new ++ share_of share n rest) next ∙ ap (λ fs. fs ++ others) same
      ∙ sym (ap (λ fs. done ++ share_of share before fs) is
      ∙ ap (λ b. done ++ (if b then flaw ∷ others else others)) (ap (is_in_share share) (sym next) ∙ passed)) ∙ h

-- ---- the flaws of places

module _ (d : DescData) (items : ℕ) where
  pub places_next : (place : Place) (from rest : List Place) (done new all : List Flaw) → from ≡ place ∷ rest → new ≡ done ++ flaws_at d items place
      → done ++ flaws_of_places d items from ≡ all → new ++ flaws_of_places d items rest ≡ all
  places_next place from rest done new all is grown h =
      let others = flaws_of_places d items rest in
      ap (λ fs. fs ++ others) grown ∙ append_assoc done (flaws_at d items place) others
      ∙ ap (λ fs. done ++ fs) (sym (flat_map-cons (flaws_at d items) place rest)) ∙ sym (ap (λ ps. done ++ flaws_of_places d items ps) is) ∙ h

  pub places_end : (left : List Place) (done all : List Flaw) → left ≡ [] → done ++ flaws_of_places d items left ≡ all → done ≡ all
  places_end left done all none h =
      sym (append-nil done) ∙ sym (ap (λ ps. done ++ flaws_of_places d items ps) none) ∙ h

-- ---- answers

module _ (d : DescData) (tasks : List Task) (shown : List Seen) where
  pub none_known : (flaws : List Flaw) (known : List (Option Graded)) → IsBlank (length flaws) known → AreKnown d tasks shown flaws known
  none_known flaws known blank = record {
    size = blank.size_is;
    each = λ number it is. absurd (no_value it (sym is ∙ blank.none number));
  }
    where
      no_value : (it : Graded) → Some it ≡ None → ⊥
      no_value it is = cc

  pub known_back : (again : DescData) (flaws : List Flaw) (known : List (Option Graded)) → again ≡ d → AreKnown again tasks shown flaws known
      → AreKnown d tasks shown flaws known
  known_back again flaws known same h = subst (λ x. AreKnown x tasks shown flaws known) same h

  pub known_here : (flaws : List Flaw) (known : List (Option Graded)) (number : ℕ) (flaw : Flaw) (o : Option Graded) → AreKnown d tasks shown flaws known
      → o ≡ slice_index_or known number None → flaw ≡ flaw_at flaws number → IfSome o (λ it. it ≡ graded_by d tasks shown flaw)
  known_here flaws known number flaw None h is at = tt
  known_here flaws known number flaw (Some it) h is at = h.each number it (sym is) ∙ ap (graded_by d tasks shown) (sym at)

  -- the answer of one flaw more
  pub answered_next : (again : DescData) (flaw : Flaw) (from rest : List Flaw) (done new all : List Graded) → again ≡ d → from ≡ flaw ∷ rest
      → new ≡ done ++ graded_by again tasks shown flaw ∷ [] → done ++ map (graded_by d tasks shown) from ≡ all
      → new ++ map (graded_by d tasks shown) rest ≡ all
  answered_next again flaw from rest done new all same is tried h =
      let answers = map (graded_by d tasks shown) in
      ap (λ gs. gs ++ answers rest) (tried ∙ ap (λ x. done ++ graded_by x tasks shown flaw ∷ []) same)
      ∙ append_assoc done (graded_by d tasks shown flaw ∷ []) (answers rest) ∙ sym (ap (λ fs. done ++ answers fs) is) ∙ h

  pub answered_end : (from : List Flaw) (done all : List Graded) → from ≡ [] → done ++ map (graded_by d tasks shown) from ≡ all → done ≡ all
  answered_end from done all none h = sym (append-nil done) ∙ sym (ap (λ fs. done ++ map (graded_by d tasks shown) fs) none) ∙ h

  -- one that is taken of those that are known
  pub answer_known : (again : DescData) (graded : List Graded) (flaw : Flaw) (o : Option Graded) → AreAnswers d tasks shown graded → again ≡ d
      → IfSome o (λ it. it.flaw ≡ flaw) → IfSome o (Contains graded) → IfSome o (λ it. it ≡ graded_by again tasks shown flaw)
  answer_known again graded flaw None all same is there = tt
  answer_known again graded flaw (Some it) all same is there =
      All-contains (λ (g : Graded). g ≡ graded_by d tasks shown g.flaw) graded it all there ∙ ap (graded_by d tasks shown) is
      ∙ ap (λ x. graded_by x tasks shown flaw) (sym same)

  all_answers : (flaws : List Flaw) → AreAnswers d tasks shown (map (graded_by d tasks shown) flaws)
  all_answers [] = All-nil (λ (it : Graded). it ≡ graded_by d tasks shown it.flaw)
  all_answers (flaw ∷ flaws) =
      All-cons (λ (it : Graded). it ≡ graded_by d tasks shown it.flaw) (graded_by d tasks shown flaw) (map (graded_by d tasks shown) flaws)
      refl (all_answers flaws)

  pub answers_of : {E : Type 0} (r : Result Tries E) (again : DescData) (flaws : List Flaw) → again ≡ d
      → IfOk r (λ t. t.graded.items ≡ map (graded_by again tasks shown) flaws) → IfOk r (λ t. AreAnswers d tasks shown t.graded.items)
  answers_of (Ok t) again flaws same is =
      subst (AreAnswers d tasks shown) (sym (is ∙ ap (λ x. map (graded_by x tasks shown) flaws) same)) (all_answers flaws)
  answers_of (Err e) again flaws same is = tt
