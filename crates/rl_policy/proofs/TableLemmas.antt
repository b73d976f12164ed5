-- Facts on the whole table, by computation.
use Rattle.std.proofs.Common.{◌≡◌, Bool, true, false, ◌&&◌, refl, sym, ap, ◌∙◌, not, ◌||◌}
use Rattle.std.specs.Prelude.{IsTrue, ◌↔◌, ℕ, List, [], ◌∷◌, cond, find, bytes_eq, Option, Some, None, IfSome}
use Rattle.std.specs.Bool.{beq}
use Rattle.std.proofs.lemmas.Slice.Eq.{bytes_eq-Decides}
use Rattle.rl_policy.specs.Names.{name_of}
use Rattle.std.proofs.lemmas.Bool.{and_parts}
use Rattle.rl_policy.specs.Table.{after_write, spends_mark, update_bit}
use Rattle.rl_policy.specs.Reach.{is_reached, is_one_sided, UpdateReaches, KeepsReach}
use Rattle.rl_policy.specs.declared.policy.Policy.{Policy}
use Rattle.rl_policy.specs.declared.policy.Policy.TheVariants.{Ro, Rw, Rc, Rs, Wrc, Wrs, Wc, Ws, Wsrc, Wcrs, W1c, W1s, W1t, W0c, W0s, W0t, W1src, W1crs, W0src, W0crs, Wo, Woc, Wos, W1, Wo1}

-- a test holds of both bits
abbrev both : (Bool → Bool) → Bool
both f = f true && f false

both_at : (f : Bool → Bool) → both f ≡ true → (b : Bool) → f b ≡ true
both_at f h true = (and_parts (f true) (f false) h).0
both_at f h false = (and_parts (f true) (f false) h).1

-- an update at one row of the table and one set of bits
abbrev agrees : Policy → Bool → Bool → Bool → Bool
agrees p m d s = beq (beq (after_write p m (update_bit p d m) s) d) (is_reached p m d s)

abbrev row_agrees : Policy → Bool
row_agrees p = both (λ m. both (λ d. both (λ s. agrees p m d s)))

same_as_test : (x d r : Bool) → beq (beq x d) r ≡ true → (x ≡ d) ↔ IsTrue r
same_as_test true true true h = (λ _. refl, λ _. refl)
same_as_test true true false h = cc
same_as_test true false true h = cc
same_as_test true false false h = (λ e. cc, λ e. cc)
same_as_test false true true h = cc
same_as_test false true false h = (λ e. cc, λ e. cc)
same_as_test false false true h = (λ _. refl, λ _. refl)
same_as_test false false false h = cc

-- what holds of each policy and of each of four bits
abbrev Rule : Type 0
Rule = Policy → Bool → Bool → Bool → Bool → Bool

abbrev row_passes : Rule → Policy → Bool
row_passes rule p = both (λ m. both (λ d. both (λ v. both (λ s. rule p m d v s))))

at_bits : (rule : Rule) (p : Policy) (m d v s : Bool) → row_passes rule p ≡ true → rule p m d v s ≡ true
at_bits rule p m d v s h =
    both_at (λ s. rule p m d v s) (both_at (λ v. both (λ s. rule p m d v s)) (both_at (λ d. both (λ v. both (λ s. rule p m d v s))) (both_at (λ m. both (λ d. both (λ v. both (λ s. rule p m d v s))))
    h m) d) v) s

implied : (a b : Bool) → (not a || b) ≡ true → a ≡ true → b ≡ true
implied true b h e = h
implied false b h e = cc

implied_not : (a b : Bool) → (a || b) ≡ true → a ≡ false → b ≡ true
implied_not true b h e = cc
implied_not false b h e = h

abbrev rule_predicted : Rule
rule_predicted p m d v s = is_one_sided p || is_reached p m m s

abbrev rule_set : Rule
rule_set p m d v s = not (is_reached p m d s) || is_reached p m (after_write p d v s) s

abbrev rule_one_sided : Rule
rule_one_sided p m d v s = not (is_one_sided p) || is_reached p m (after_write p d v s) s

abbrev rule_fresh : Rule
rule_fresh p m d v s = not (is_reached p m d s) || is_reached p m d false

abbrev all_rules : Policy → Bool
all_rules p = row_passes (λ p m d v s. rule_predicted p m d v s && rule_set p m d v s && rule_one_sided p m d v s && rule_fresh p m d v s) p

-- the whole table, by computation
table_passes : (p : Policy) → (row_agrees p && all_rules p) ≡ true
table_passes Ro = refl
table_passes Rw = refl
table_passes Rc = refl
table_passes Rs = refl
table_passes Wrc = refl
table_passes Wrs = refl
table_passes Wc = refl
table_passes Ws = refl
table_passes Wsrc = refl
table_passes Wcrs = refl
table_passes W1c = refl
table_passes W1s = refl
table_passes W1t = refl
table_passes W0c = refl
table_passes W0s = refl
table_passes W0t = refl
table_passes W1src = refl
table_passes W1crs = refl
table_passes W0src = refl
table_passes W0crs = refl
table_passes Wo = refl
table_passes Woc = refl
table_passes Wos = refl
table_passes W1 = refl
table_passes Wo1 = refl

pub update_reaches : UpdateReaches
update_reaches p m d s =
    same_as_test _ d _ (both_at (agrees p m d) (both_at (λ e. both (agrees p m e)) (both_at (λ n. both (λ e. both (agrees p n e))) (and_parts (row_agrees p) (all_rules p) (table_passes p)).0 m) d) s)

rules_at : (p : Policy) (m d v s : Bool) → (rule_predicted p m d v s && rule_set p m d v s && rule_one_sided p m d v s && rule_fresh p m d v s) ≡ true
rules_at p m d v s =
    at_bits (λ p m d v s. rule_predicted p m d v s && rule_set p m d v s && rule_one_sided p m d v s && rule_fresh p m d v s) p m d v s
    (and_parts (row_agrees p) (all_rules p) (table_passes p)).1

four_parts : (a b c d : Bool) → (a && b && c && d) ≡ true → (a ≡ true) × (b ≡ true) × (c ≡ true) × (d ≡ true)
four_parts true true true true h = (refl, refl, refl, refl)
four_parts true true true false h = cc
four_parts true true false d h = cc
four_parts true false c d h = cc
four_parts false b c d h = cc

rule_parts : (p : Policy) (m d v s : Bool) → (rule_predicted p m d v s ≡ true) × (rule_set p m d v s ≡ true) × (rule_one_sided p m d v s ≡ true) × (rule_fresh p m d v s ≡ true)
rule_parts p m d v s = four_parts (rule_predicted p m d v s) (rule_set p m d v s) (rule_one_sided p m d v s) (rule_fresh p m d v s) (rules_at p m d v s)

pub keeps_reach : KeepsReach
keeps_reach = record {
  predicted = λ p m s e. implied_not (is_one_sided p) _ (rule_parts p m m m s).0 e;
  set = λ p m d v s h. implied (is_reached p m d s) _ (rule_parts p m d v s).1 h;
  set_one_sided = λ p m d v s e. implied (is_one_sided p) _ (rule_parts p m d v s).2 e;
  fresh = λ p m d s h. implied (is_reached p m d s) _ (rule_parts p m d d s).3 h;
}

-- a spent mark keeps the bit
pub after_write-by_mark : (p : Policy) (x w s : Bool) → after_write p x w s ≡ cond (spends_mark p && s) x (after_write p x w false)
after_write-by_mark Ro x w s = refl
after_write-by_mark Rw x w s = refl
after_write-by_mark Rc x w s = refl
after_write-by_mark Rs x w s = refl
after_write-by_mark Wrc x w s = refl
after_write-by_mark Wrs x w s = refl
after_write-by_mark Wc x w s = refl
after_write-by_mark Ws x w s = refl
after_write-by_mark Wsrc x w s = refl
after_write-by_mark Wcrs x w s = refl
after_write-by_mark W1c x w s = refl
after_write-by_mark W1s x w s = refl
after_write-by_mark W1t x w s = refl
after_write-by_mark W0c x w s = refl
after_write-by_mark W0s x w s = refl
after_write-by_mark W0t x w s = refl
after_write-by_mark W1src x w s = refl
after_write-by_mark W1crs x w s = refl
after_write-by_mark W0src x w s = refl
after_write-by_mark W0crs x w s = refl
after_write-by_mark Wo x w s = refl
after_write-by_mark Woc x w s = refl
after_write-by_mark Wos x w s = refl
after_write-by_mark W1 x w s = refl
after_write-by_mark Wo1 x w s = refl

and_again : (a b : Bool) → (a && (a && b)) ≡ (a && b)
and_again true b = refl
and_again false b = refl

-- so a mark is asked only where the policy spends it
pub after_write-spending : (p : Policy) (x w s : Bool) → after_write p x w (spends_mark p && s) ≡ after_write p x w s
after_write-spending p x w s =
    after_write-by_mark p x w (spends_mark p && s) ∙ ap (λ b. cond b x (after_write p x w false)) (and_again (spends_mark p) s)
    ∙ sym (after_write-by_mark p x w s)

-- ---- a search through the whole table

find_step : {X : Type 0} (test : X → Bool) (y x : X) (rest : Option X) (b : Bool) → test y ≡ b → (rest ≡ Some x → test x ≡ true) → cond b (Some y) rest ≡ Some x → test x ≡ true
find_step test y x rest true p more e = cc
find_step test y x rest false p more e = more e

find_passes : {X : Type 0} (test : X → Bool) (xs : List X) (x : X) → find test xs ≡ Some x → test x ≡ true
find_passes test [] x e = cc
find_passes test (y ∷ ys) x e = find_step test y x (find test ys) (test y) refl (find_passes test ys x) e

pub found_named : (name : List ℕ) (all : List Policy) (r : Option Policy) → r ≡ find (λ p. bytes_eq (name_of p) name) all → IfSome r (λ p. name ≡ name_of p)
found_named name all None e = tt
found_named name all (Some p) e = sym ((bytes_eq-Decides (name_of p) name).0 (find_passes (λ q. bytes_eq (name_of q) name) all p (sym e)))
