use Rattle.std.proofs.Common.{arith}
use Rattle.rl_access.specs.Operation.{location_size}
use Rattle.rl_access.proofs.Bytes.{zero_fits}
use Rattle.rl_access.proofs.location.read_location.Goals as goal

pub outgoing_at-outgoing-requires-clause-value : goal.outgoing_at-outgoing-requires-clause-value
outgoing_at-outgoing-requires-clause-value g c = zero_fits 256 (location_size c.args.model.now.chip c.args.mem) (omega arith)
