use Rattle.std.proofs.Common.{sym, ◌∙◌, arith}
use Rattle.rl_map.proofs.Growing.{is_none_of, is_some_of}
use Rattle.rl_map.proofs.address.is_location_above.Goals as goal

pub returns-then-is_above : goal.returns-then-is_above
returns-then-is_above c = sym (is_some_of _ c.args.row.now.bytes c.loop-byte.byte (omega arith) (sym c.is_above.ensures ∙ c.if-is_above.true))

pub returns : goal.returns
returns c = sym (is_none_of _ c.args.row.now.bytes (λ j low. c.loop-byte.invariant j (omega arith)))
