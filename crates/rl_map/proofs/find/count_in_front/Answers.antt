use Rattle.std.proofs.Common.{Bool, not, ◌==◌, rules, tests, ◌∙◌}
use Rattle.std.proofs.lemmas.Iterator.{YieldsList-from_slice}
use Rattle.std.proofs.lemmas.Iterator.Search.{position_from_yields_List}
use Rattle.std.proofs.lemmas.List.Sums.{prefix_len-le-length}
use Rattle.rl_policy.proofs.Positions.{or_length}
use Rattle.rl_bus.specs.declared.table.WordRow.{WordRow}
use Rattle.rl_map.specs.Layout.{key_of}
use Rattle.rl_map.proofs.find.count_in_front.Goals as goal

pub returns : goal.returns
returns c =
    let rows = c.args.rows.now in
    let other : WordRow → Bool = λ r. not (key_of r == c.args.sought) in
    let found = position_from_yields_List other _ _ c.position.result c.position.ensures.ran (YieldsList-from_slice rows cc) (λ x b q k. search (rules, tests)) in
    let is = c.unwrap_or.ensures ∙ or_length other rows c.position.result found in
    record { count = is; within = rw is (prefix_len-le-length (λ r. not (other r)) rows) }
