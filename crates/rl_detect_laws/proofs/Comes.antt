-- The first check of a register in a plan of checks.
use Rattle.std.proofs.Common.{◌≡◌, ◌⊎◌, ℕ, zero, suc, ◌<◌, ◌≤◌, Bool, true, false, List, [], ◌∷◌, subst, inl, inr, arith}
use Rattle.std.proofs.lemmas.Bool.{cases_lt}
use Rattle.rl_access.specs.declared.event.Event.{Event}
use Rattle.rl_access.specs.declared.event.Op.{Op}
use Rattle.rl_access.specs.Call.{Scene, Performs}
use Rattle.rl_access.specs.HandsOver.{Told}
use Rattle.rl_access.specs.Model.{ModelData}
use Rattle.rl_seq.specs.Plan.{Plan, stop, step, look, followed_by, only_if, each_below, Runs}
use Rattle.rl_detect_laws.specs.Visited.{HasEvent}

-- each operation is another one
abbrev pub AreOthers : (Op → Type 0) → Plan → Type 0
AreOthers IsOther stop = Unit {0}
AreOthers IsOther (step op p) = IsOther op × AreOthers IsOther p
AreOthers IsOther (look f) = (m : ModelData) → AreOthers IsOther (f m)

-- other ones, and then one of this kind
abbrev pub ComesTo : (IsOther IsOne : Op → Type 0) → Plan → Type 0
ComesTo IsOther IsOne stop = ⊥
ComesTo IsOther IsOne (step op p) = IsOne op ⊎ (IsOther op × ComesTo IsOther IsOne p)
ComesTo IsOther IsOne (look f) = (m : ModelData) → ComesTo IsOther IsOne (f m)

-- either of the two
abbrev pub Either : (IsOther IsOne : Op → Type 0) → Plan → Type 0
Either IsOther IsOne p = AreOthers IsOther p ⊎ ComesTo IsOther IsOne p

others_all : (IsOther : Op → Type 0) (p q : Plan) → AreOthers IsOther p → AreOthers IsOther q → AreOthers IsOther (followed_by p q)
others_all IsOther stop q h k = k
others_all IsOther (step op p) q h k = (h.0, others_all IsOther p q h.1 k)
others_all IsOther (look f) q h k = λ m. others_all IsOther (f m) q (h m) k

comes_first : (IsOther IsOne : Op → Type 0) (p q : Plan) → ComesTo IsOther IsOne p → ComesTo IsOther IsOne (followed_by p q)
comes_first IsOther IsOne stop q h = absurd h
comes_first IsOther IsOne (step op p) q (inl one) = inl one
comes_first IsOther IsOne (step op p) q (inr (other, later)) = inr (other, comes_first IsOther IsOne p q later)
comes_first IsOther IsOne (look f) q h = λ m. comes_first IsOther IsOne (f m) q (h m)

comes_then : (IsOther IsOne : Op → Type 0) (p q : Plan) → AreOthers IsOther p → ComesTo IsOther IsOne q → ComesTo IsOther IsOne (followed_by p q)
comes_then IsOther IsOne stop q h k = k
comes_then IsOther IsOne (step op p) q h k = inr (h.0, comes_then IsOther IsOne p q h.1 k)
comes_then IsOther IsOne (look f) q h k = λ m. comes_then IsOther IsOne (f m) q (h m) k

either_then : (IsOther IsOne : Op → Type 0) (p q : Plan) → Either IsOther IsOne p → Either IsOther IsOne q → Either IsOther IsOne (followed_by p q)
either_then IsOther IsOne p q (inl h) (inl k) = inl (others_all IsOther p q h k)
either_then IsOther IsOne p q (inl h) (inr k) = inr (comes_then IsOther IsOne p q h k)
either_then IsOther IsOne p q (inr h) k = inr (comes_first IsOther IsOne p q h)

pub either_if : (IsOther IsOne : Op → Type 0) (b : Bool) (p : Plan) → Either IsOther IsOne p → Either IsOther IsOne (only_if b p)
either_if IsOther IsOne true p h = h
either_if IsOther IsOne false p h = inl tt

pub comes_if : (IsOther IsOne : Op → Type 0) (b : Bool) (p : Plan) → b ≡ true → ComesTo IsOther IsOne p → ComesTo IsOther IsOne (only_if b p)
comes_if IsOther IsOne true p so h = h
comes_if IsOther IsOne false p so h = absurd (cc)

pub either_each : (IsOther IsOne : Op → Type 0) (n : ℕ) (f : ℕ → Plan) → ((k : ℕ) → k < n → Either IsOther IsOne (f k))
    → Either IsOther IsOne (each_below n f)
either_each IsOther IsOne zero f h = inl tt
either_each IsOther IsOne (suc n) f h =
    either_then IsOther IsOne (each_below n f) (f n) (either_each IsOther IsOne n f (λ k low. h k (omega (arith, low)))) (h n (omega arith))

comes_now : (IsOther IsOne : Op → Type 0) (p q : Plan) → Either IsOther IsOne p → ComesTo IsOther IsOne q → ComesTo IsOther IsOne (followed_by p q)
comes_now IsOther IsOne p q (inl h) k = comes_then IsOther IsOne p q h k
comes_now IsOther IsOne p q (inr h) k = comes_first IsOther IsOne p q h

pub comes_each : (IsOther IsOne : Op → Type 0) (n k : ℕ) (f : ℕ → Plan) → ((j : ℕ) → j < n → Either IsOther IsOne (f j)) → k < n
    → ComesTo IsOther IsOne (f k) → ComesTo IsOther IsOne (each_below n f)
comes_each IsOther IsOne zero k f all low h = absurd (omega (arith, low))
comes_each IsOther IsOne (suc n) k f all low h =
    by (cases_lt k n) (λ less. comes_each IsOther IsOne n k f (λ j below. all j (omega (arith, below))) less h)
  where
    by : (k < n) ⊎ (n ≤ k) → (k < n → ComesTo IsOther IsOne (each_below n f)) → ComesTo IsOther IsOne (each_below (suc n) f)
    by (inl less) before = comes_first IsOther IsOne (each_below n f) (f n) (before less)
    by (inr most) before =
        let same : k ≡ n = omega (arith, low, most) in
        comes_now IsOther IsOne (each_below n f) (f n)
        (either_each IsOther IsOne n f (λ j below. all j (omega (arith, below)))) (subst (λ j. ComesTo IsOther IsOne (f j)) same h)

-- where the other ones leave what stands, and one of this kind has such an event, the plan has one
pub come_found : (IsOther IsOne : Op → Type 0) (Stands : Scene → Type 0) (IsSo : Event → Type 0)
    → ((s new : Scene) (op : Op) (e : Event) → IsOther op → Stands s → Performs s new op e → Stands new)
    → ((s new : Scene) (op : Op) (e : Event) → IsOne op → Stands s → Performs s new op e → IsSo e)
    → (p : Plan) (s new : Scene) (told : List Told) → ComesTo IsOther IsOne p → Stands s → Runs p s told new → HasEvent IsSo told
come_found IsOther IsOne Stands IsSo stays finds stop s new told h st run = absurd h
come_found IsOther IsOne Stands IsSo stays finds (step op p) s new [] h st run = absurd run
come_found IsOther IsOne Stands IsSo stays finds (step op p) s new (t ∷ told) (inl one) st (mid, first, rest) =
    inl (finds s mid op t.event one st first.performs)
come_found IsOther IsOne Stands IsSo stays finds (step op p) s new (t ∷ told) (inr (other, later)) st (mid, first, rest) =
    inr (come_found IsOther IsOne Stands IsSo stays finds p mid new told later (stays s mid op t.event other st first.performs) rest)
come_found IsOther IsOne Stands IsSo stays finds (look f) s new told h st run =
    come_found IsOther IsOne Stands IsSo stays finds (f s.model) s new told (h s.model) st run
