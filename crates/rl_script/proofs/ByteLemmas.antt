-- A test of each byte, as a fold that goes to the end.
use Rattle.std.proofs.Common.{◌≡◌, ℕ, Bool, true, false, ◌&&◌, List, [], ◌∷◌, refl, inl, inr}
use Rattle.std.specs.Prelude.{fold}
use Rattle.std.specs.List.{list_all}
use Rattle.std.proofs.lemmas.Bool.{cases_Bool}

fails_on : (p : ℕ → Bool) (xs : List ℕ) → fold (λ all x. all && p x) false xs ≡ false
fails_on p [] = refl
fails_on p (x ∷ xs) = fails_on p xs

pub fold-and : (p : ℕ → Bool) (xs : List ℕ) → fold (λ all x. all && p x) true xs ≡ list_all p xs
fold-and p [] = refl
fold-and p (x ∷ xs) =
    elim (cases_Bool (p x)) [
      | inl holds ↦ rw holds (fold-and p xs)
      | inr fails ↦ rw fails (fails_on p xs)
    ]
