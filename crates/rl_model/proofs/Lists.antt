-- A test of the elements of a list, from a place on.
use Rattle.std.proofs.Common.{◌≡◌, ℕ, ◌+◌, ◌<◌, Bool, true, false, ◌||◌, List, ◌∷◌, length, get_or, drop, sym, ap, ◌∙◌}
use Rattle.std.specs.List.{list_any}
use Rattle.std.proofs.lemmas.List.{at_drop_more}

pub any_here : {X : Type 0} (p : X → Bool) (xs : List X) (i : ℕ) (x : X) (any : Bool) → i < length xs → x ≡ get_or xs i x → p x ≡ true → list_any p (drop i xs) ≡ any → true ≡ any
any_here p xs i x any low is here was =
    let rest = drop (i + 1) xs in
    sym (ap (λ b. b || list_any p rest) here) ∙ ap (λ y. list_any p (y ∷ rest)) is ∙ sym (at_drop_more (list_any p) xs i x low) ∙ was

pub any_later : {X : Type 0} (p : X → Bool) (xs : List X) (i : ℕ) (x : X) (any : Bool) → i < length xs → x ≡ get_or xs i x → p x ≡ false → list_any p (drop i xs) ≡ any
    → list_any p (drop (i + 1) xs) ≡ any
any_later p xs i x any low is later was =
    let rest = drop (i + 1) xs in
    sym (ap (λ b. b || list_any p rest) later) ∙ ap (λ y. list_any p (y ∷ rest)) is ∙ sym (at_drop_more (list_any p) xs i x low) ∙ was
