use Rattle.rl_vcd.proofs.DumpLemmas.{front_put}
use Rattle.rl_vcd.proofs.dump.Dump.write_out.Goals as goal

pub returns-then-is_err-clause-front : goal.returns-then-is_err-clause-front
returns-then-is_err-clause-front g c = front_put _ _ _ c.put_all.result (rw (c.deref.ensures.value) at c.put_all.ensures.bytes)

pub returns-clause-front : goal.returns-clause-front
returns-clause-front g c = front_put _ _ _ c.put_all.result (rw (c.deref.ensures.value) at c.put_all.ensures.bytes)
