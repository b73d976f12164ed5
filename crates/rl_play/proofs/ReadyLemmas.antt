-- What stays true of a model, its device and its adapters.
use Rattle.std.proofs.Common.{◌≡◌, ℕ, List, [], ◌∷◌, Option, Some, None, IfSome, option_map, slice_get, ◌<◌, length, refl, sym, ap, ◌∙◌}
use Rattle.std.proofs.lemmas.Option.{slice_get_within}
use Rattle.rl_bus.specs.Standing.{Standing}
use Rattle.rl_bus.specs.State.{State}
use Rattle.rl_map.specs.Tables.{setup_of}
use Rattle.rl_access.specs.Model.{ModelData, IsReady, IsDeviceOf, IsSameChip}

pub device_same : (m n : ModelData) (state : Option State) → IsDeviceOf m state → IsSameChip m n → IsDeviceOf n state
device_same m n state h e =
    λ s is. let t = h s is in record {
      flaws = t.flaws;
      setup = t.setup ∙ ap (λ c. setup_of c m.layout t.flaws) (sym e.chip) ∙ ap (λ l. setup_of n.chip l t.flaws)
          (sym e.layout);
    }

pub ready_after : (m n : ModelData) (adapters : List Standing) (before state : Option State)
    → IsReady m adapters before → IsSameChip m n → IsDeviceOf n state → IsReady n adapters state
ready_after m n adapters before state h e d = record { kinds = h.kinds ∙ ap (λ l. l.kinds) (sym e.layout); device = d }

pub steady_name : (a b c d e f : ℕ) → a ∷ b ∷ c ∷ [] ≡ d ∷ e ∷ f ∷ [] → a ≡ d
steady_name a b c d e f h = cc

pub steady_ends : (a b c d e f : ℕ) → a ∷ b ∷ c ∷ [] ≡ d ∷ e ∷ f ∷ [] → b ≡ e
steady_ends a b c d e f h = cc

pub steady_target : (a b c d e f : ℕ) → a ∷ b ∷ c ∷ [] ≡ d ∷ e ∷ f ∷ [] → c ≡ f
steady_target a b c d e f h = cc

-- For `grind`: each of the three numbers of what stays.
pub ruleset all_steady = (steady_name, steady_ends, steady_target)

-- a number that a look-up answers is in range
pub some_in : (r : Option ℕ) (P : ℕ → Type 0) → ((n : ℕ) → r ≡ Some n → P n) → IfSome r P
some_in None P h = tt
some_in (Some n) P h = h n refl

mapped_by : {A B : Type 0} (f : A → B) (o : Option A) (b : B) → option_map f o ≡ Some b → (a : A) × (o ≡ Some a)
mapped_by f None b h = absurd (cc)
mapped_by f (Some a) b h = (a, refl)

pub mapped_within : {A B : Type 0} (f : A → B) (xs : List A) (n : ℕ) (b : B) → option_map f (slice_get xs n) ≡ Some b
    → n < length xs
mapped_within f xs n b h = let m = mapped_by f (slice_get xs n) b h in slice_get_within xs n m.0 m.1
