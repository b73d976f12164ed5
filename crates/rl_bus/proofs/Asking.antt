-- Calls of a device, one after another.
use Rattle.std.proofs.Common.{◌≡◌, ℕ, suc, ◌+◌, ◌≤◌, List, [], ◌∷◌, ◌++◌, length, refl, sym, ap, subst, arith}
use Rattle.rl_bus.specs.Account.{Account, Request, Asks, AsksAll, without_peer}

-- those that come behind others
pub asks_append : (first mid last : Account) (xs ys : List Request) → AsksAll first xs mid → AsksAll mid ys last → AsksAll first (xs ++ ys) last
asks_append first mid last [] ys is more = subst (λ a. AsksAll a ys last) is more
asks_append first mid last (x ∷ xs) ys asked more = (asked.0, asked.1, asks_append asked.0 mid last xs ys asked.2 more)

-- one call
pub asks_one : (before after : Account) (x : Request) → Asks before after x → AsksAll before (x ∷ []) after
asks_one before after x asked = (after, asked, refl)

-- one more call
pub asks_push : (first before after : Account) (xs : List Request) (x : Request) → AsksAll first xs before → Asks before after x → AsksAll first (xs ++ x ∷ []) after
asks_push first before after xs x asked one = asks_append first before after xs (x ∷ []) asked (asks_one before after x one)

-- the count of errors doesn't fall
pub asks_later : (first last : Account) (xs : List Request) → AsksAll first xs last → first.errors ≤ last.errors
asks_later first last [] is = subst (λ a. first.errors ≤ a.errors) (sym is) (omega arith)
asks_later first last (x ∷ xs) asked =
    let next = asks_later asked.0 last xs asked.2 in
    let here = asked.1.cause.later in omega (arith, next, here)

-- a device that has no peer may be asked anything
pub asks_alone : (errors : ℕ) (xs : List Request) → AsksAll (without_peer errors) xs (without_peer (errors + length xs))
asks_alone errors [] = ap without_peer (omega arith)
asks_alone errors (x ∷ xs) =
    let one : Asks (without_peer errors) (without_peer (errors + 1)) x =
    record { cause = record { later = omega arith; failed = λ f. omega arith }; talks = tt } in
    let count : errors + 1 + length xs ≡ errors + suc (length xs) = omega arith in
    (without_peer (errors + 1), one, subst (λ n. AsksAll (without_peer (errors + 1)) xs (without_peer n)) count (asks_alone (errors + 1) xs))
