-- Plans that find what is asked for, or lead from what stands to something else.
use Rattle.std.proofs.Common.{◌≡◌, ◌⊎◌, ℕ, zero, suc, ◌<◌, Bool, true, false, List, [], ◌∷◌, refl, sym, subst, inl, inr, arith}
use Rattle.std.proofs.lemmas.Bool.{cases_lt}
use Rattle.rl_access.specs.declared.event.Event.{Event}
use Rattle.rl_access.specs.declared.event.Op.{Op}
use Rattle.rl_access.specs.Call.{Scene, Performs}
use Rattle.rl_access.specs.HandsOver.{Told}
use Rattle.rl_seq.specs.Plan.{Plan, stop, step, followed_by, only_if, each_below, Runs}
use Rattle.rl_detect_laws.specs.Visited.{HasEvent}
use Rattle.rl_detect_laws.proofs.BitBash.{split, in_front, in_back, Finds}

-- one of the events is so, or it leads from the one to the other
abbrev pub Leads : (Scene → Type 0) → (Scene → Type 0) → (Event → Type 0) → Plan → Type 0
Leads From To IsSo p = (s new : Scene) (told : List Told) → From s → Runs p s told new → HasEvent IsSo told ⊎ To new

-- nothing stands: one of the events was so
abbrev pub Nothing : Scene → Type 0
Nothing s = ⊥

module _ (IsSo : Event → Type 0) where
  pub leads_stop : (A : Scene → Type 0) → Leads A A IsSo stop
  leads_stop A s new [] h run = inr (subst A (sym run) h)
  leads_stop A s new (x ∷ told) h run = absurd run

  pub leads_step : (A B C : Scene → Type 0) (o : Op) (p : Plan) → ((s new : Scene) (e : Event) → A s → Performs s new o e → IsSo e ⊎ B new) → Leads B C IsSo p
      → Leads A C IsSo (step o p)
  leads_step A B C o p goes more s new [] h run = absurd run
  leads_step A B C o p goes more s new (x ∷ told) h (mid, one, rest) =
      elim (goes s mid x.event h one.performs) [
        | inl so ↦ inl (inl so)
        | inr stands ↦ elim (more mid new told stands rest) [
          | inl so ↦ inl (inr so)
          | inr then ↦ inr then
        ]
      ]

  pub leads_both : (A B C : Scene → Type 0) (p q : Plan) → Leads A B IsSo p → Leads B C IsSo q → Leads A C IsSo (followed_by p q)
  leads_both A B C p q goes more s new told h run =
      let both = split p q s told new run in
      elim (goes s both.mid both.front h both.first) [
        | inl so ↦ inl (subst (HasEvent IsSo) (sym both.is) (in_front IsSo both.front both.back so))
        | inr stands ↦ elim (more both.mid new both.back stands both.second) [
          | inl so ↦ inl (subst (HasEvent IsSo) (sym both.is) (in_back IsSo both.front both.back so))
          | inr then ↦ inr then
        ]
      ]

  pub leads_if : (A : Scene → Type 0) (b : Bool) (p : Plan) → (b ≡ true → Leads A A IsSo p) → Leads A A IsSo (only_if b p)
  leads_if A true p goes = goes refl
  leads_if A false p goes = leads_stop A

  pub leads_on : (A B : Scene → Type 0) (b : Bool) (p : Plan) → b ≡ true → Leads A B IsSo p → Leads A B IsSo (only_if b p)
  leads_on A B true p on goes = goes
  leads_on A B false p on goes = absurd (cc)

  pub leads_off : (A : Scene → Type 0) (b : Bool) (p : Plan) → b ≡ false → Leads A A IsSo (only_if b p)
  leads_off A true p off = absurd (cc)
  leads_off A false p off = leads_stop A

  pub leads_found : (A B : Scene → Type 0) (p : Plan) → Leads A Nothing IsSo p → Leads A B IsSo p
  leads_found A B p finds s new told h run =
      elim (finds s new told h run) [
        | inl so ↦ inl so
        | inr none ↦ absurd none
      ]

  pub leads_wider : (A B C : Scene → Type 0) (p : Plan) → ((s : Scene) → B s → C s) → Leads A B IsSo p → Leads A C IsSo p
  leads_wider A B C p wider goes s new told h run =
      elim (goes s new told h run) [
        | inl so ↦ inl so
        | inr stands ↦ inr (wider new stands)
      ]

  pub leads_from_none : (A : Scene → Type 0) (p : Plan) → Leads Nothing A IsSo p
  leads_from_none A p s new told h run = absurd h

  pub leads_all : (A : Scene → Type 0) (n : ℕ) (f : ℕ → Plan) → ((k : ℕ) → k < n → Leads A A IsSo (f k)) → Leads A A IsSo (each_below n f)
  leads_all A zero f each = leads_stop A
  leads_all A (suc n) f each = leads_both A A A (each_below n f) (f n) (leads_all A n f (λ j low. each j (omega (arith, low)))) (each n (omega arith))

  -- at one number it leads on
  pub leads_at : (A B : Scene → Type 0) (n k : ℕ) (f : ℕ → Plan) → k < n → ((j : ℕ) → j < k → Leads A A IsSo (f j)) → Leads A B IsSo (f k)
      → ((j : ℕ) → k < j → j < n → Leads B B IsSo (f j)) → Leads A B IsSo (each_below n f)
  leads_at A B zero k f low before here later = absurd (omega (arith, low))
  leads_at A B (suc n) k f low before here later =
      elim (cases_lt k n) [
        | inl less ↦
            leads_both A B B (each_below n f) (f n) (leads_at A B n k f less before here (λ j above under. later j above (omega (arith, under)))) (later n less (omega arith))
        | inr most ↦
            let same : k ≡ n = omega (arith, low, most) in
            leads_both A A B (each_below n f) (f n) (leads_all A n f (λ j under. before j (omega (arith, under, same)))) (subst (λ j. Leads A B IsSo (f j)) same here)
      ]

  -- at two it does
  pub leads_twice : (A B C : Scene → Type 0) (n i k : ℕ) (f : ℕ → Plan) → i < k → k < n → ((j : ℕ) → j < i → Leads A A IsSo (f j)) → Leads A B IsSo (f i)
      → ((j : ℕ) → i < j → j < k → Leads B B IsSo (f j)) → Leads B C IsSo (f k) → ((j : ℕ) → k < j → j < n → Leads C C IsSo (f j)) → Leads A C IsSo (each_below n f)
  leads_twice A B C zero i k f first low before here between there later = absurd (omega (arith, low))
  leads_twice A B C (suc n) i k f first low before here between there later =
      elim (cases_lt k n) [
        | inl less ↦
            leads_both A C C (each_below n f) (f n)
            (leads_twice A B C n i k f first less before here between there (λ j above under. later j above (omega (arith, under)))) (later n less (omega arith))
        | inr most ↦
            let same : k ≡ n = omega (arith, low, most) in
            leads_both A B C (each_below n f) (f n)
            (leads_at A B n i f (omega (arith, first, same)) before here (λ j above under. between j above (omega (arith, under, same))))
            (subst (λ j. Leads B C IsSo (f j)) same there)
      ]

  pub leads_finds : (A : Scene → Type 0) (p : Plan) → Leads A Nothing IsSo p → Finds A IsSo p
  leads_finds A p finds s new told h run =
      elim (finds s new told h run) [
        | inl so ↦ so
        | inr none ↦ absurd none
      ]
