use Rattle.std.proofs.Common.{length, ap, sym, ◌∙◌, subst, arith}
use Rattle.std.specs.Prelude.{All}
use Rattle.std.proofs.lemmas.List.{length-replicate}
use Rattle.std.proofs.lemmas.List.Elements.{All-replicate}
use Rattle.rl_bench.specs.declared.find.Stretch.{Stretch}
use Rattle.rl_bench.specs.Stretch.{IsHint}
use Rattle.rl_bench.proofs.hints.Hints.new.Goals as goal

abbrev nothing : Stretch
nothing = record { first = 0; end = 0 }

pub invariant_of-result : goal.invariant_of-result
invariant_of-result c = record { full = ap length (c.in_ok-vec.ensures.items_if_clones_equal (λ s same. same)) ∙ length-replicate 4096 nothing }

pub returns : goal.returns
returns c words =
    subst (All (IsHint words)) (sym (c.in_ok-vec.ensures.items_if_clones_equal (λ s same. same)))
    (All-replicate (IsHint words) 4096 nothing (λ d low. absurd (omega arith)))
