use Rattle.std.proofs.Common.{◌∙◌, rules, tests}
use Rattle.std.specs.Prelude.{nat_le}
use Rattle.std.proofs.lemmas.Iterator.{YieldsList-from_slice}
use Rattle.std.proofs.lemmas.Iterator.Search.{position_from_yields_List}
use Rattle.rl_policy.proofs.Positions.{or_length}
use Rattle.rl_script.proofs.WordLemmas.{within}
use Rattle.rl_script.proofs.words.above_space.Goals as goal

pub returns : goal.returns
returns c =
    let e = position_from_yields_List (λ b. nat_le b 32) _ _ c.position.result c.position.ensures.ran (YieldsList-from_slice c.args.text.now cc) (λ x b q k. search (rules, tests)) in
    let is = c.unwrap_or.ensures ∙ or_length (λ b. nat_le b 32) c.args.text.now c.position.result e in
    record { len = is; within = rw is (within (λ b. nat_le b 32) c.args.text.now) }
