-- Flaws that are told to be one are equal.
use Rattle.std.proofs.Common.{◌≡◌, ℕ, Bool, true, false, ◌&&◌, ◌==◌, List, Option, Some, refl, sym, ap, ◌∙◌}
use Rattle.std.specs.Prelude.{bytes_eq}
use Rattle.std.proofs.lemmas.Bool.{and_parts, eqb-true}
use Rattle.std.proofs.lemmas.Slice.Eq.{bytes_eq-Decides}
use Rattle.rl_policy.specs.declared.policy.Policy.{Policy}
use Rattle.rl_policy.specs.declared.policy.Policy.TheVariants.{Ro}
use Rattle.rl_policy.specs.Names.{name_of}
use Rattle.rl_map.specs.Layout.{same_item}
use Rattle.rl_model.specs.declared.rows.Item.{Item}
use Rattle.rl_model.specs.declared.rows.Item.TheVariants.{Reg, Mem}
use Rattle.rl_desc.specs.Words.{policy_named}
use Rattle.rl_flaw.specs.declared.flaw.Flaw.{Flaw}
use Rattle.rl_flaw.specs.declared.flaw.Flaw.TheVariants.{Deaf, ErrorNth, ErrorRange, OtherPolicy, OtherReset, Stuck}
use Rattle.rl_grade.specs.Hidden.{is_same}
use Rattle.rl_grade.specs.Same.{is_same_flaw}

-- a policy is the one of its name
named_of : (p : Policy) → policy_named (name_of p) ≡ Some p
unfolding policy_named
named_of Ro = refl
named_of _ = refl

same_policy : (p q : Policy) → name_of p ≡ name_of q → p ≡ q
same_policy p q is = let both : Some p ≡ Some q = sym (named_of p) ∙ ap policy_named is ∙ named_of q in cc

same_bool : (a b : Bool) → is_same a b ≡ true → a ≡ b
same_bool true b is = sym is
same_bool false true is = absurd cc
same_bool false false is = refl

same_items : (a b : Item) → same_item a b ≡ true → a ≡ b
same_items (Reg a) (Reg b) is = ap Reg (eqb-true a b is)
same_items (Mem a) (Mem b) is = ap Mem (eqb-true a b is)
same_items (Reg a) (Mem b) is = absurd cc
same_items (Mem a) (Reg b) is = absurd cc

pub same_flaw : (a b : Flaw) → is_same_flaw a b ≡ true → a ≡ b
same_flaw (Stuck f b v) (Stuck g c w) is =
    let fields = and_parts (f == g) (b == c && is_same v w) is in
    let rest = and_parts (b == c) (is_same v w) fields.1 in
    ap (λ x. Stuck x b v) (eqb-true f g fields.0) ∙ ap (λ x. Stuck g x v) (eqb-true b c rest.0) ∙ ap (Stuck g c) (same_bool v w rest.1)
same_flaw (OtherReset f k v) (OtherReset g l w) is =
    let fields = and_parts (f == g) (k == l && v == w) is in
    let rest = and_parts (k == l) (v == w) fields.1 in
    ap (λ x. OtherReset x k v) (eqb-true f g fields.0) ∙ ap (λ x. OtherReset g x v) (eqb-true k l rest.0) ∙ ap (OtherReset g l) (eqb-true v w rest.1)
same_flaw (OtherPolicy f p) (OtherPolicy g q) is =
    let fields = and_parts (f == g) (bytes_eq (name_of p) (name_of q)) is in
    ap (λ x. OtherPolicy x p) (eqb-true f g fields.0)
    ∙ ap (OtherPolicy g) (same_policy p q ((bytes_eq-Decides (name_of p) (name_of q)).0 fields.1))
same_flaw (ErrorRange p a b) (ErrorRange q c d) is =
    let ports = and_parts (p == q) (a == c && b == d) is in
    let rest = and_parts (a == c) (b == d) ports.1 in
    ap (λ x. ErrorRange x a b) (eqb-true p q ports.0) ∙ ap (λ x. ErrorRange q x b) (eqb-true a c rest.0) ∙ ap (ErrorRange q c) (eqb-true b d rest.1)
same_flaw (ErrorNth m) (ErrorNth n) is = ap ErrorNth (eqb-true m n is)
same_flaw (Deaf i) (Deaf j) is = ap Deaf (same_items i j is)
same_flaw _ _ is = absurd cc
