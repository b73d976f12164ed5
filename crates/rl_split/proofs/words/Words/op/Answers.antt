use Rattle.std.proofs.Common.{ℕ}
use Rattle.rl_bus.specs.declared.op.BusOp.{BusOp}
use Rattle.rl_split.proofs.Kept.{part_at}
use Rattle.rl_split.proofs.words.Words.op.Goals as goal

pub returns : goal.returns
returns c =
    let w = c.self.inside in
    part_at (λ (p : BusOp × ℕ). p.0) w.len c.args.k w.items _ c.args.self.now c.op.result c.self.view_is c.requires c.op.ensures
