-- The policy of a name.
use Rattle.std.proofs.Common.{◌≡◌, ◌≢◌, ℕ, Bool, false, List, [], ◌∷◌, Option, Some, None, refl, sym, inl, inr}
use Rattle.std.specs.Prelude.{find, IfSome, IsNone}
use Rattle.std.specs.Str.{bytes_eq}
use Rattle.std.proofs.lemmas.Bool.{cases_Bool}
use Rattle.std.proofs.lemmas.Slice.Eq.{bytes_eq-Decides}
use Rattle.rl_policy.specs.declared.policy.Policy.{Policy}
use Rattle.rl_policy.specs.declared.policy.Policy.TheVariants.{Ro, Rw, Rc, Rs, Wrc, Wrs, Wc, Ws, Wsrc, Wcrs, W1c, W1s, W1t, W0c, W0s, W0t, W1src, W1crs, W0src, W0crs, Wo, Woc, Wos, W1, Wo1}
use Rattle.rl_policy.specs.Names.{name_of}
use Rattle.rl_desc.specs.Words.{policies, policy_named}

named_of : (p : Policy) → policy_named (name_of p) ≡ Some p
unfolding policy_named
named_of Ro = refl
named_of Rw = refl
named_of Rc = refl
named_of Rs = refl
named_of Wrc = refl
named_of Wrs = refl
named_of Wc = refl
named_of Ws = refl
named_of Wsrc = refl
named_of Wcrs = refl
named_of W1c = refl
named_of W1s = refl
named_of W1t = refl
named_of W0c = refl
named_of W0s = refl
named_of W0t = refl
named_of W1src = refl
named_of W1crs = refl
named_of W0src = refl
named_of W0crs = refl
named_of Wo = refl
named_of Woc = refl
named_of Wos = refl
named_of W1 = refl
named_of Wo1 = refl

find_none : {X : Type 0} (p : X → Bool) (xs : List X) → ((x : X) → p x ≡ false) → find p xs ≡ None
find_none p [] h = refl
find_none p (x ∷ xs) h = rw (h x) (find_none p xs h)

named_none : (s : List ℕ) → ((p : Policy) → s ≢ name_of p) → policy_named s ≡ None
unfolding policy_named
named_none s h =
    find_none (λ p. bytes_eq (name_of p) s) policies (λ p.
    elim (cases_Bool (bytes_eq (name_of p) s)) [
      | inl e ↦ absurd (h p (sym ((bytes_eq-Decides (name_of p) s).0 e)))
      | inr e ↦ e
    ])

pub policy_is : (r : Option Policy) (s : List ℕ) → IfSome r (λ p. s ≡ name_of p) → (IsNone r → (p : Policy) → s ≢ name_of p) → r ≡ policy_named s
policy_is (Some p) s found none = rw found (sym (named_of p))
policy_is None s found none = sym (named_none s (none refl))
