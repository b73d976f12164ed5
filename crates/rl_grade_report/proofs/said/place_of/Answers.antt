use Rattle.std.proofs.Common.{ℕ, List, eqb, rules, tests}
use Rattle.std.specs.Prelude.{nat_eq}
use Rattle.std.specs.List.{starts_with}
use Rattle.std.proofs.lemmas.Iterator.Search.{position_from_yields_List}
use Rattle.std.proofs.lemmas.Iterator.Splits.{YieldsList-from_slice_split}
use Rattle.rl_grade_report.proofs.said.place_of.Goals as goal

pub returns : goal.returns
returns c =
    position_from_yields_List (λ (word : List ℕ). starts_with nat_eq word c.args.name.now) _ _ c.position.result c.position.ensures.ran
    (YieldsList-from_slice_split _ (λ (b : ℕ). eqb b 32) c.args.line.now c.split.ensures.rest c.split.ensures.done c.split.ensures.closure
    (λ x r q k. search (rules, tests)))
    (λ x b q k. search (rules, tests))
