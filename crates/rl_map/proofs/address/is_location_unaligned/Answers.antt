use Rattle.std.proofs.Common.{sym, ◌∙◌, arith}
use Rattle.rl_map.proofs.Growing.{is_none_of, is_some_of}
use Rattle.rl_map.proofs.address.is_location_unaligned.Goals as goal

pub returns-then-is_unaligned : goal.returns-then-is_unaligned
returns-then-is_unaligned c = sym (is_some_of _ c.args.row.now.bytes c.loop-byte.byte (omega arith) (sym c.is_unaligned.ensures ∙ c.if-is_unaligned.true))

pub returns : goal.returns
returns c = sym (is_none_of _ c.args.row.now.bytes (λ j low. c.loop-byte.invariant j (omega arith)))
