use Rattle.std.proofs.Common.{◌+◌, arith}
use Rattle.rl_vcd.proofs.TextLemmas.{access_more}
use Rattle.rl_vcd.proofs.wave.Drawn.push_access.Goals as goal

pub loop-k-preserved : goal.loop-k-preserved
loop-k-preserved c =
    access_more c.args.self.now.bus c.args.self.now.transfer.now c.args.self.now.response.now c.args.n c.loop-k.k (c.loop-k.k + 1) _ _ _ (omega arith) c.loop-k.invariant
    (rw (c.pins_at-before.ensures, c.pins_at-after.ensures) at c.in_ok-push_cycle.ensures)
