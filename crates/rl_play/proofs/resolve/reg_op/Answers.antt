use Rattle.std.proofs.Common.{refl}
use Rattle.rl_play.proofs.resolve.reg_op.Goals as goal

pub returns-in-Write : goal.returns-in-Write
returns-in-Write c = λ second. rw c.in-Write.is refl

pub returns-in-Read : goal.returns-in-Read
returns-in-Read c = λ second. rw c.in-Read.is refl

pub returns-in-Mirror : goal.returns-in-Mirror
returns-in-Mirror c = λ second. rw c.in-Mirror.is refl

pub returns-in-Check : goal.returns-in-Check
returns-in-Check c = λ second. rw c.in-Check.is refl

pub returns-in-Update : goal.returns-in-Update
returns-in-Update c = λ second. rw c.in-Update.is refl

pub returns-in-OtherWrite : goal.returns-in-OtherWrite
returns-in-OtherWrite c = λ second. rw c.in-OtherWrite.is refl

pub returns-in-OtherRead : goal.returns-in-OtherRead
returns-in-OtherRead c = λ second. rw c.in-OtherRead.is refl

pub returns-in-Show : goal.returns-in-Show
returns-in-Show c = λ second. rw c.in-Show.is refl

pub returns-in-BackRead : goal.returns-in-BackRead
returns-in-BackRead c = λ second. rw c.in-BackRead.is refl

pub returns-in-BackCheck : goal.returns-in-BackCheck
returns-in-BackCheck c = λ second. rw c.in-BackCheck.is refl

pub returns-in-Peek : goal.returns-in-Peek
returns-in-Peek c = λ second. rw c.in-Peek.is refl

pub returns-in-BackWrite : goal.returns-in-BackWrite
returns-in-BackWrite c = λ second. rw c.in-BackWrite.is refl

pub returns-in-Poke : goal.returns-in-Poke
returns-in-Poke c = λ second. rw c.in-Poke.is refl
