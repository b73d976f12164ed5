-- The items that a list has in its array.
use Rattle.std.proofs.Common.{◌≡◌, ℕ, ◌<◌, List, length, get_or, map, take, min, Some, option_map, sym, ap, ◌∙◌, arith, length-take}
use Rattle.std.specs.Prelude.{slice_get}
use Rattle.std.proofs.lemmas.List.{get_or-take}
use Rattle.std.proofs.lemmas.Option.{slice_get-get_or, slice_get-map}

-- a part of the item at a place
pub part_at : {A B : Type 0} (part : A → B) (n k : ℕ) (xs : List A) (d : A) (now : List A) (r : B) → take n xs ≡ now → k < length now → r ≡ part (get_or xs k d) → slice_get (map part now) k ≡ Some r
part_at part n k xs d now r is l e =
    let taken : length (take n xs) ≡ min n (length xs) = length-take n xs in
    let inside : k < n = omega (arith, l, ap length is, taken) in
    slice_get-map part now k
    ∙ ap (λ ys. option_map part (slice_get ys k)) (sym is)
    ∙ ap (option_map part) (slice_get-get_or (take n xs) k d (omega (arith, l, ap length is)) ∙ ap Some (get_or-take n xs k d inside))
    ∙ ap Some (sym e)
