use Rattle.std.proofs.Common.{arith}
use Rattle.rl_model.specs.Fields.{size_of}
use Rattle.rl_access.proofs.Bytes.{zero_fits}
use Rattle.rl_access.proofs.model.Model.whole_read.Goals as goal

pub whole-requires-clause-value : goal.whole-requires-clause-value
whole-requires-clause-value c = zero_fits 256 (size_of c.args.self.now.chip c.args.reg) (omega arith)
