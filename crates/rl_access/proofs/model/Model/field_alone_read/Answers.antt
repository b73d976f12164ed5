use Rattle.std.proofs.Common.{arith}
use Rattle.rl_model.specs.Fields.{field_of}
use Rattle.rl_access.proofs.Bytes.{zero_fits}
use Rattle.rl_access.proofs.model.Model.field_alone_read.Goals as goal

pub field_alone-requires-clause-value : goal.field_alone-requires-clause-value
field_alone-requires-clause-value c = zero_fits 2 (field_of c.args.self.now.chip c.args.field).shape.width (omega arith)
