use Rattle.std.proofs.Common.{rules, subst}
use Rattle.std.proofs.lemmas.List.Sorted.{answers_always, IsPermutation-refl, IsNonDecreasingBy-from_sort_by_key}
use Rattle.rl_map.specs.Layout.{key_of, IsAscending}
use Rattle.rl_map.proofs.shared.sort_rows.Goals as goal

pub returns-clause-ascending : goal.returns-clause-ascending
returns-clause-ascending c = IsNonDecreasingBy-from_sort_by_key key_of _ c.in_ok-sort_by_key.ensures.sorted (λ a r q k. search rules)

pub returns-clause-stable : goal.returns-clause-stable
returns-clause-stable c = c.in_ok-sort_by_key.ensures.stable key_of (answers_always _ _ _ (λ f a r g h. search rules))

pub returns-then-is_ascending-clause-moved : goal.returns-then-is_ascending-clause-moved
returns-then-is_ascending-clause-moved c = IsPermutation-refl _

pub returns-then-is_ascending-clause-ascending : goal.returns-then-is_ascending-clause-ascending
returns-then-is_ascending-clause-ascending c = subst IsAscending c.deref.ensures.value (c.is_ascending.ensures c.if-is_ascending.true)
