use Rattle.std.proofs.Common.{ℕ}
use Rattle.rl_bus.specs.declared.op.BusOp.{BusOp}
use Rattle.rl_split.proofs.Kept.{part_at}
use Rattle.rl_split.proofs.words.Words.order.Goals as goal

pub returns : goal.returns
returns c =
    let w = c.self.inside in
    part_at (λ (p : BusOp × ℕ). p.1) w.len c.args.k w.items _ c.args.self.now c.order.result c.self.view_is c.requires c.order.ensures
