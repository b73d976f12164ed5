-- Conditions that are tested in parts.
use Rattle.std.proofs.Common.{◌≡◌, ℕ, ◌≤◌, false, arith, List, [], ◌∷◌, ◌++◌, Option, Some, None, Result, Err, refl, sym, ap, ◌∙◌, subst, inl, inr}
use Rattle.std.proofs.lemmas.Bool.{cases_Bool}
use Rattle.std.proofs.lemmas.Bool.Decides.{nat_tests}
use Rattle.rl_model.specs.declared.fault.Spot.{Spot}
use Rattle.rl_model.specs.declared.fault.ModelFault.{ModelFault}
use Rattle.rl_model.specs.Rules.{Check, first_of, is_bad_width, or_else, Fails, Passes}

pub first_of_all : (spot : Spot) (cs ds : List Check) → first_of spot (cs ++ ds) ≡ or_else (first_of spot cs) (first_of spot ds)
first_of_all spot [] ds = refl
first_of_all spot (c ∷ cs) ds = elim (cases_Bool c.0) [
  | inl fails ↦ rw fails
  | inr holds ↦ rw holds (first_of_all spot cs ds)
]

pub or_else_all : {X : Type 0} (a b c : Option X) → or_else (or_else a b) c ≡ or_else a (or_else b c)
or_else_all None b c = refl
or_else_all (Some x) b c = refl

-- ---- what the exit of a call returns

pub failed : {X : Type 0} (r : Result X ModelFault) (P : X → Type 0) (fault : Option ModelFault) (e y : ModelFault) → r ≡ Err y → y ≡ e → Fails e fault → Passes r fault P
failed r P fault e y at same h = subst (λ x. Passes x fault P) (sym at) (subst (λ x. Fails x fault) (sym same) h)

-- the first step fails
pub fails_first : (e : ModelFault) (first later whole : Option ModelFault) → Fails e first → whole ≡ or_else first later → Fails e whole
fails_first e first later whole fails split = λ other. split ∙ ap (λ o. or_else o later) (fails other)

-- the first step passes, and the later one decides
pub passed_on : {X : Type 0} (r : Result X ModelFault) (P : X → Type 0) (first later whole : Option ModelFault)
    → first ≡ None → Passes r later P → whole ≡ or_else first later → Passes r whole P
passed_on r P first later whole none passes split = subst (λ o. Passes r o P) (sym (split ∙ ap (λ o. or_else o later) none)) passes

-- ---- widths

pub width_fits : (bytes : ℕ) → is_bad_width bytes ≡ false → bytes ≤ 8
width_fits bytes fits = grind (arith, nat_tests)
