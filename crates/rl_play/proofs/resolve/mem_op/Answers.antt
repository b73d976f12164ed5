use Rattle.std.proofs.Common.{refl}
use Rattle.rl_play.proofs.resolve.mem_op.Goals as goal

pub returns-in-MemWrite : goal.returns-in-MemWrite
returns-in-MemWrite c = rw c.in-MemWrite.is refl

pub returns-in-MemCheck : goal.returns-in-MemCheck
returns-in-MemCheck c = rw c.in-MemCheck.is refl

pub returns-in-MemRead : goal.returns-in-MemRead
returns-in-MemRead c = rw c.in-MemRead.is refl

pub returns-in-BurstRead : goal.returns-in-BurstRead
returns-in-BurstRead c = rw c.in-BurstRead.is refl

pub returns-in-MemPeek : goal.returns-in-MemPeek
returns-in-MemPeek c = rw c.in-MemPeek.is refl

pub returns-in-MemPoke : goal.returns-in-MemPoke
returns-in-MemPoke c = rw c.in-MemPoke.is refl
