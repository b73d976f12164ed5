use Rattle.rl_vcd.proofs.DumpLemmas.{front_still}
use Rattle.rl_vcd.proofs.dump.Dump.try_note.Goals as goal

pub returns-then-len-lt-ROOM-clause-front : goal.returns-then-len-lt-ROOM-clause-front
returns-then-len-lt-ROOM-clause-front g c = front_still _ _
