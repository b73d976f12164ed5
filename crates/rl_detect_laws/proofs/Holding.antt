-- An operation that stands in a plan, whatever is looked at.
use Rattle.std.proofs.Common.{◌≡◌, ◌⊎◌, ℕ, zero, suc, ◌<◌, ◌≤◌, Bool, true, false, List, [], ◌∷◌, subst, inl, inr, arith}
use Rattle.std.proofs.lemmas.Bool.{cases_lt}
use Rattle.rl_access.specs.declared.event.Event.{Event}
use Rattle.rl_access.specs.declared.event.Op.{Op}
use Rattle.rl_access.specs.Call.{Scene, Performs}
use Rattle.rl_access.specs.HandsOver.{Told}
use Rattle.rl_access.specs.Model.{ModelData}
use Rattle.rl_seq.specs.Plan.{Plan, stop, step, look, followed_by, only_if, each_below, Runs}
use Rattle.rl_detect_laws.specs.Visited.{HasEvent}

-- one of this kind
abbrev pub HoldsOne : (Op → Type 0) → Plan → Type 0
HoldsOne IsOne stop = ⊥
HoldsOne IsOne (step op p) = IsOne op ⊎ HoldsOne IsOne p
HoldsOne IsOne (look f) = (m : ModelData) → HoldsOne IsOne (f m)

pub in_first : (IsOne : Op → Type 0) (p q : Plan) → HoldsOne IsOne p → HoldsOne IsOne (followed_by p q)
in_first IsOne stop q h = absurd h
in_first IsOne (step op p) q (inl one) = inl one
in_first IsOne (step op p) q (inr rest) = inr (in_first IsOne p q rest)
in_first IsOne (look f) q h = λ m. in_first IsOne (f m) q (h m)

pub in_second : (IsOne : Op → Type 0) (p q : Plan) → HoldsOne IsOne q → HoldsOne IsOne (followed_by p q)
in_second IsOne stop q h = h
in_second IsOne (step op p) q h = inr (in_second IsOne p q h)
in_second IsOne (look f) q h = λ m. in_second IsOne (f m) q h

pub in_chosen : (IsOne : Op → Type 0) (b : Bool) (p : Plan) → b ≡ true → HoldsOne IsOne p → HoldsOne IsOne (only_if b p)
in_chosen IsOne true p so h = h
in_chosen IsOne false p so h = absurd (cc)

pub in_each : (IsOne : Op → Type 0) (n k : ℕ) (f : ℕ → Plan) → k < n → HoldsOne IsOne (f k) → HoldsOne IsOne (each_below n f)
in_each IsOne zero k f low h = absurd (omega (arith, low))
in_each IsOne (suc n) k f low h = by (cases_lt k n) (λ less. in_each IsOne n k f less h)
  where
    by : (k < n) ⊎ (n ≤ k) → (k < n → HoldsOne IsOne (each_below n f)) → HoldsOne IsOne (each_below (suc n) f)
    by (inl less) before = in_first IsOne (each_below n f) (f n) (before less)
    by (inr most) before =
        let same : k ≡ n = omega (arith, low, most) in
        in_second IsOne (each_below n f) (f n) (subst (λ j. HoldsOne IsOne (f j)) same h)

-- where every operation leaves what stands, and one of this kind has such an event, the plan has one
pub held_found : (IsOne : Op → Type 0) (Stands : Scene → Type 0) (IsSo : Event → Type 0)
    → ((s new : Scene) (op : Op) (e : Event) → Stands s → Performs s new op e → Stands new)
    → ((s new : Scene) (op : Op) (e : Event) → IsOne op → Stands s → Performs s new op e → IsSo e)
    → (p : Plan) (s new : Scene) (told : List Told) → HoldsOne IsOne p → Stands s → Runs p s told new → HasEvent IsSo told
held_found IsOne Stands IsSo stays finds stop s new told h st run = absurd h
held_found IsOne Stands IsSo stays finds (step op p) s new [] h st run = absurd run
held_found IsOne Stands IsSo stays finds (step op p) s new (t ∷ told) (inl one) st (mid, first, rest) =
    inl (finds s mid op t.event one st first.performs)
held_found IsOne Stands IsSo stays finds (step op p) s new (t ∷ told) (inr later) st (mid, first, rest) =
    inr (held_found IsOne Stands IsSo stays finds p mid new told later (stays s mid op t.event st first.performs) rest)
held_found IsOne Stands IsSo stays finds (look f) s new told h st run =
    held_found IsOne Stands IsSo stays finds (f s.model) s new told (h s.model) st run
