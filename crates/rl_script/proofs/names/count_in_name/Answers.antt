use Rattle.std.proofs.Common.{not, ◌∙◌, rules, tests}
use Rattle.std.proofs.lemmas.Iterator.{YieldsList-from_slice}
use Rattle.std.proofs.lemmas.Iterator.Search.{position_from_yields_List}
use Rattle.rl_policy.proofs.Positions.{or_length}
use Rattle.rl_script.specs.Names.{is_in_name}
use Rattle.rl_script.proofs.WordLemmas.{within}
use Rattle.rl_script.proofs.names.count_in_name.Goals as goal

pub returns : goal.returns
returns c =
    let e = position_from_yields_List (λ b. not (is_in_name b)) _ _ c.position.result c.position.ensures.ran (YieldsList-from_slice c.args.text.now cc) (λ x b q k. search (rules, tests)) in
    let is = c.unwrap_or.ensures ∙ or_length (λ b. not (is_in_name b)) c.args.text.now c.position.result e in
    record { count = is; within = rw is (within (λ b. not (is_in_name b)) c.args.text.now) }
