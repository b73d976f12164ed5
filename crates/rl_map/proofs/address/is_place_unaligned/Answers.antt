use Rattle.std.proofs.Common.{sym, ◌∙◌, arith}
use Rattle.rl_map.specs.Building.{placed_at}
use Rattle.rl_map.proofs.Growing.{is_none_of, is_some_of}
use Rattle.rl_map.proofs.EvenTests.{none_unaligned}
use Rattle.rl_map.proofs.address.is_place_unaligned.Goals as goal

pub returns-then-is_location_unaligned : goal.returns-then-is_location_unaligned
returns-then-is_location_unaligned c = sym (is_some_of _ c.args.row.now.size c.loop-index.index
    (omega arith) (sym c.is_location_unaligned.ensures ∙ c.if-is_location_unaligned.true))

pub returns : goal.returns
returns c = sym (is_none_of _ c.args.row.now.size
    (none_unaligned (placed_at c.args.row.now c.args.path.now c.args.port.now) c.requires.path c.requires.width (λ i low in_size. c.loop-index.invariant i (omega arith))))
