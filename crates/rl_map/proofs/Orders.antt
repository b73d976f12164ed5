use Rattle.std.proofs.Common.{◌≡◌, ℕ, suc, zero, ◌+◌, ◌<◌, ◌≤◌, Bool, true, false, cond, ◌==◌, List, [], ◌∷◌, ◌++◌, ◌||◌, length, arith, refl, length-append, nat_lt, add-one}
use Rattle.std.specs.List.{list_any}
use Rattle.std.proofs.lemmas.List.{length-map}
use Rattle.std.proofs.lemmas.Bool.Decides.{nat_tests}
use Rattle.rl_map.specs.declared.seat.Seat.{Seat}
use Rattle.rl_map.specs.Words.{orders_below, words_below}

step : (t u : Bool) (xs ys : List ℕ) (n a b : ℕ) → length xs ≤ length ys + a → (t ≡ true → (a ≡ 0) × (b ≡ 1)) → (t ≡ false → a ≤ b)
    → length (cond (t || u) (xs ++ n ∷ []) xs) ≤ length (cond u (ys ++ n ∷ []) ys) + b
step true true xs ys n a b h here other = omega (arith, length-append {A = ℕ}, here refl)
step true false xs ys n a b h here other = omega (arith, length-append {A = ℕ}, here refl)
step false true xs ys n a b h here other = omega (arith, length-append {A = ℕ}, other refl)
step false false xs ys n a b h here other = omega (arith, other refl)

-- whether an order is below n
counted : ℕ → ℕ → ℕ
counted order n = cond (nat_lt order n) 1 0

counted_here : (order n : ℕ) → (order == n) ≡ true → (counted order n ≡ 0) × (counted order (suc n) ≡ 1)
unfolding counted
counted_here order n e = grind (arith, nat_tests)

counted_other : (order n : ℕ) → (order == n) ≡ false → counted order n ≤ counted order (suc n)
unfolding counted
counted_other order n e = grind (arith, nat_tests)

counted_le : (order n : ℕ) → counted order n ≤ 1
unfolding counted
counted_le order n = grind (arith, nat_tests)

-- one seat adds one order at most
one_more : (seat : Seat) (seats : List Seat) (n : ℕ) → length (orders_below (seat ∷ seats) n) ≤ length (orders_below seats n) + counted seat.order n
one_more seat seats zero = omega arith
one_more seat seats (suc n) =
    step (seat.order == n) (list_any (λ seat. seat.order == n) seats) (orders_below (seat ∷ seats) n) (orders_below seats n) n _ _
    (one_more seat seats n) (counted_here seat.order n) (counted_other seat.order n)

none_below : (n : ℕ) → length (orders_below [] n) ≡ 0
none_below zero = refl
none_below (suc n) = none_below n

-- there are no more words than bytes
pub length-orders_below : (seats : List Seat) (n : ℕ) → length (orders_below seats n) ≤ length seats
length-orders_below [] n = omega (arith, none_below n)
length-orders_below (seat ∷ seats) n =
    omega (arith, one_more seat seats n, counted_le seat.order n, length-orders_below seats n)

-- an order that a byte has leaves room for its word
pub length-words_below : (seats : List Seat) (n : ℕ) → list_any (λ seat. seat.order == n) seats ≡ true → length (words_below seats n) < length seats
length-words_below seats n e =
    let few = length-orders_below seats (suc n) in
    let grown : length (orders_below seats (suc n)) ≡ length (orders_below seats n ++ n ∷ []) = rw e refl in
    rw length-map (omega (arith, length-append (orders_below seats n) (n ∷ [])))

-- one order more, counted where a byte has it
pub more_orders : (seats : List Seat) (n count : ℕ) → count ≡ length (orders_below seats n)
    → count + cond (list_any (λ seat. seat.order == n) seats) 1 0 ≡ length (orders_below seats (n + 1))
more_orders seats n count was = rw add-one (by (list_any (λ seat. seat.order == n) seats))
  where
    by : (t : Bool) → count + cond t 1 0 ≡ length (cond t (orders_below seats n ++ n ∷ []) (orders_below seats n))
    by true = omega (arith, was, length-append (orders_below seats n) (n ∷ []))
    by false = omega (arith, was)

pub digit_le : (b : Bool) → cond {A = ℕ} b 1 0 ≤ 1
digit_le true = omega arith
digit_le false = omega arith
