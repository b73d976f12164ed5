-- Addresses that are carried between two maps, counted unit by unit.
use Rattle.std.proofs.Common.{◌≡◌, ℕ, zero, suc, ◌+◌, ◌*◌, ◌/◌, ◌%◌, ◌<◌, ◌≤◌, ◌==◌, ◌⊎◌, inl, inr, Bool, true, false, cond, refl, sym, ap, ◌∙◌, arith, eq-eqb, eqb-true}
use Rattle.std.specs.Int.{div_ceil}
use Rattle.std.proofs.Math.Nat.{mod-lt, zero-div}
use Rattle.std.proofs.lemmas.Bool.{cases_lt}
use Rattle.std.proofs.lemmas.Nat.{same_from_place, div-add-mod'}
use Rattle.rl_map.specs.declared.path.Level.{Level}
use Rattle.rl_map.specs.declared.seat.Access.{Access}
use Rattle.rl_map.specs.Level.{stride_of}
use Rattle.rl_map.specs.Access.{carried}
use Rattle.rl_map.specs.Laws.{units_before, EveryAddressCounted}

unequal : (x : ℕ) → 0 < x → (x == 0) ≡ false
unequal x some = by (x == 0) refl
  where
    by : (t : Bool) → (x == 0) ≡ t → t ≡ false
    by true e = absurd (omega (arith, some, eqb-true x 0 e))
    by false e = refl

-- at the last byte of a word the quotient rises by one
quotient : (n a : ℕ) → 0 < n → suc a / n ≡ a / n + cond ((a + 1) % n == 0) 1 0
quotient n a some = by (cases_lt (a % n + 1) n)
  where
    parts : a / n * n + a % n ≡ a
    parts = div-add-mod' a n

    more : suc a / n * n + suc a % n ≡ suc a
    more = div-add-mod' (suc a) n

    next : a + 1 ≡ suc a
    next = omega arith

    by : (a % n + 1 < n) ⊎ (n ≤ a % n + 1) → suc a / n ≡ a / n + cond ((a + 1) % n == 0) 1 0
    by (inl low) =
        let same = same_from_place (suc a / n) (suc a % n) (a / n) (a % n + 1) n (mod-lt (suc a) some) low (omega (arith, parts, more)) in
        same.0 ∙ sym (ap (λ b. a / n + cond b 1 0) (unequal ((a + 1) % n) (omega (arith, same.1, ap (λ x. x % n) next))) ∙ (let e : a / n + 0 ≡ a / n = omega arith in e))
    by (inr last) =
        let full : (a / n + 1) * n ≡ a / n * n + n = omega arith in
        let same = same_from_place (suc a / n) (suc a % n) (a / n + 1) 0 n (mod-lt (suc a) some) some (omega (arith, parts, more, full, last, mod-lt a some)) in
        same.0 ∙ sym (ap (λ b. a / n + cond b 1 0) (eq-eqb ((a + 1) % n) 0 (ap (λ x. x % n) next ∙ same.1)))

-- where the child counts words
by_words : (access : Access) (level : Level) → access.word ≡ true → (address : ℕ)
    → address * div_ceil access.bytes level.bytes * stride_of level ≡ units_before access level address
by_words access level e zero = let none : 0 * div_ceil access.bytes level.bytes * stride_of level ≡ 0 = omega arith in none
by_words access level e (suc a) =
    rw e (one_more a (div_ceil access.bytes level.bytes) (stride_of level) ∙ ap (λ x. x + div_ceil access.bytes level.bytes * stride_of level) (by_words access level e a))
  where
    one_more : (x c s : ℕ) → suc x * c * s ≡ x * c * s + c * s
    one_more x c s = omega arith

-- where it counts bytes and the parent words
by_bytes : (access : Access) (level : Level) → 0 < access.bytes → access.word ≡ false → level.word ≡ true → (address : ℕ)
    → address / access.bytes * div_ceil access.bytes level.bytes ≡ units_before access level address
by_bytes access level some e f zero =
    ap (λ q. q * div_ceil access.bytes level.bytes) (zero-div access.bytes) ∙ (let none : 0 * div_ceil access.bytes level.bytes ≡ 0 = omega arith in none)
by_bytes access level some e f (suc a) =
    let count = div_ceil access.bytes level.bytes in
    let last = (a + 1) % access.bytes == 0 in
    rw (e, f) (ap (λ q. q * count) (quotient access.bytes a some) ∙ spread last (a / access.bytes) count ∙ ap (λ x. x + cond last count 0) (by_bytes access level some e f a))
  where
    spread : (b : Bool) (q c : ℕ) → (q + cond b 1 0) * c ≡ q * c + cond b c 0
    spread true q c = omega arith
    spread false q c = omega arith

-- where both count bytes
alike : (access : Access) (level : Level) → access.word ≡ false → level.word ≡ false → (address : ℕ) → address ≡ units_before access level address
alike access level e f zero = refl
alike access level e f (suc a) = rw (e, f) (let next : suc a ≡ a + 1 = omega arith in next ∙ ap (λ x. x + 1) (alike access level e f a))

carried_is : (access : Access) (level : Level) (word up : Bool) → access.word ≡ word → level.word ≡ up
    → let count = div_ceil access.bytes level.bytes in
    carried access level ≡ cond word (access.address * count * stride_of level) (cond up (access.address / access.bytes * count) access.address)
carried_is access level word up e f = rw (e, f) refl

pub counted : EveryAddressCounted
counted access level some = by access.word level.word refl refl
  where
    by : (word up : Bool) → access.word ≡ word → level.word ≡ up → carried access level ≡ units_before access level access.address
    by true up e f = carried_is access level true up e f ∙ by_words access level e access.address
    by false true e f = carried_is access level false true e f ∙ by_bytes access level some e f access.address
    by false false e f = carried_is access level false false e f ∙ alike access level e f access.address
