use Rattle.std.proofs.Common.{sym, ◌∙◌, arith}
use Rattle.rl_map.specs.Building.{placed_at}
use Rattle.rl_map.proofs.Growing.{is_none_of, is_some_of}
use Rattle.rl_map.proofs.EvenTests.{none_above_from}
use Rattle.rl_map.proofs.address.is_place_above.Goals as goal

pub returns-then-is_location_above : goal.returns-then-is_location_above
returns-then-is_location_above c = sym (is_some_of _ c.args.row.now.size c.loop-index.index
    (omega arith) (sym c.is_location_above.ensures ∙ c.if-is_location_above.true))

pub returns : goal.returns
returns c = sym (is_none_of _ c.args.row.now.size
    (none_above_from (placed_at c.args.row.now c.args.path.now c.args.port.now) c.first_to_test-index.result c.requires.path c.first_to_test-index.ensures.even c.first_to_test-index.ensures.last
    (λ i from in_size. c.loop-index.invariant i (omega arith) (omega arith))))
