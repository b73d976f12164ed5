-- The first fault of steps, one after the other.
use Rattle.std.proofs.Common.{◌≡◌, List, [], ◌∷◌, ◌++◌, Option, Some, None, refl}
use Rattle.rl_desc.specs.Refusals.{or_else, first}

pub later : {X : Type 0} {x y o : Option X} → x ≡ None → y ≡ o → or_else x y ≡ o
later none same = rw none same

pub here : {X : Type 0} {x : Option X} {e : X} (y : Option X) → x ≡ Some e → or_else x y ≡ Some e
here y is = rw is refl

or_else_assoc : {X : Type 0} (x y z : Option X) → or_else x (or_else y z) ≡ or_else (or_else x y) z
or_else_assoc None y z = refl
or_else_assoc (Some e) y z = refl

pub first-append : {X : Type 0} (xs ys : List (Option X)) → first (xs ++ ys) ≡ or_else (first xs) (first ys)
first-append [] ys = refl
first-append (x ∷ xs) ys = rw (first-append xs ys) (or_else_assoc x (first xs) (first ys))
