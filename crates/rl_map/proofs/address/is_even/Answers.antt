use Rattle.std.proofs.Common.{arith}
use Rattle.rl_map.specs.Layout.{location_of}
use Rattle.rl_map.proofs.EvenTests.{straight_two}
use Rattle.rl_map.proofs.address.is_even.Goals as goal

pub returns : goal.returns
returns c = λ e. straight_two c.args.path.now (location_of c.args.row.now 0) (λ byte low. c.loop-byte.invariant byte (omega arith))
