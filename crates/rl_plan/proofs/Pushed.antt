-- What was appended, with one more.
use Rattle.std.proofs.Common.{◌≡◌, ℕ, zero, suc, ◌+◌, ◌<◌, List, [], ◌∷◌, ◌++◌, length, take, map, filter_map, flat_map, get_or, All, Option, Some, None, refl, sym, ap, ◌∙◌, append_assoc, arith}
use Rattle.std.proofs.lemmas.List.{flat_map_more, map-append, take_more}
use Rattle.std.proofs.lemmas.List.Elements.{All-append, All-nil, filter_map-append}
use Rattle.rl_access.specs.declared.event.Op.{Op}
use Rattle.rl_plan.specs.Plan.{some_op}

pub of_one : {X : Type 0} (h : X → Option Op) (x : X) (o : Option Op) → h x ≡ o → filter_map h (x ∷ []) ≡ some_op o
of_one h x None e = rw e refl
of_one h x (Some y) e = rw e refl

pub one_more : {X : Type 0} (h : X → Option Op) (first now next : List Op) (xs : List X) (i : ℕ) (d : X) → i < length xs
    → now ≡ first ++ filter_map h (take i xs) → next ≡ now ++ some_op (h (get_or xs i d))
    → next ≡ first ++ filter_map h (take (i + 1) xs)
one_more h first now next xs i d low so pushed =
    let x = get_or xs i d in
    pushed ∙ ap (λ l. l ++ some_op (h x)) so ∙ append_assoc first (filter_map h (take i xs)) (some_op (h x))
    ∙ ap (λ l. first ++ (filter_map h (take i xs) ++ l)) (sym (of_one h x (h x) refl))
    ∙ ap (λ l. first ++ l) (sym (filter_map-append h (take i xs) (x ∷ [])))
    ∙ ap (λ l. first ++ filter_map h l) (sym (take_more xs i d low))

pub text_more : {X Y : Type 0} (f : X → List Y) (first now next : List Y) (xs : List X) (i : ℕ) (d : X) → i < length xs
    → now ≡ first ++ flat_map f (take i xs) → next ≡ now ++ f (get_or xs i d)
    → next ≡ first ++ flat_map f (take (i + 1) xs)
text_more f first now next xs i d low so pushed =
    let x = get_or xs i d in
    pushed ∙ ap (λ l. l ++ f x) so ∙ flat_map_more f first (take i xs) x
    ∙ ap (λ l. first ++ flat_map f l) (sym (take_more xs i d low))

pub map_more : {X Y : Type 0} (f : X → Y) (first now next : List Y) (xs : List X) (i : ℕ) (d : X) → i < length xs
    → now ≡ first ++ map f (take i xs) → next ≡ now ++ f (get_or xs i d) ∷ []
    → next ≡ first ++ map f (take (i + 1) xs)
map_more f first now next xs i d low so pushed =
    let x = get_or xs i d in
    pushed ∙ ap (λ l. l ++ f x ∷ []) so ∙ append_assoc first (map f (take i xs)) (f x ∷ [])
    ∙ ap (λ l. first ++ l) (sym (map-append f (take i xs) (x ∷ [])))
    ∙ ap (λ l. first ++ map f l) (sym (take_more xs i d low))

-- what holds of the pieces holds of all
pub all_flat : {X Y : Type 0} (P : Y → Type 0) (f : X → List Y) (xs : List X) → All (λ x. All P (f x)) xs → All P (flat_map f xs)
all_flat P f [] each = All-nil P
all_flat P f (x ∷ xs) each =
    All-append P (f x) (flat_map f xs) (each zero x (omega arith)) (all_flat P f xs (λ k d low. each (suc k) d (omega arith)))
