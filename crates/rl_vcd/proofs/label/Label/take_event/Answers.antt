use Rattle.std.proofs.Common.{arith}
use Rattle.rl_vcd.proofs.LabelLemmas.{cut}
use Rattle.rl_vcd.proofs.label.Label.take_event.Goals as goal

pub returns : goal.returns
returns c =
    cut _ _ _ (omega (arith, c.len.ensures.len, c.len.ensures.within)) (rw (c.clear.ensures) at c.write_event_line.ensures.bytes)
    (rw (c.clear.ensures) at c.write_event_line.ensures.stays.cause)
