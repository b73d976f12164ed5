use Rattle.rl_report.proofs.telling.Telling.put_other.Goals as goal

pub returns-in-BurstRead-clause-bytes : goal.returns-in-BurstRead-clause-bytes
returns-in-BurstRead-clause-bytes g c = rw c.in-BurstRead.is (rw (c.name-name-in-BurstRead.ensures) at c.put_burst-in-BurstRead.ensures.bytes)

pub returns-in-BurstWrite-clause-bytes : goal.returns-in-BurstWrite-clause-bytes
returns-in-BurstWrite-clause-bytes g c = rw c.in-BurstWrite.is (rw (c.name-name.ensures) at c.put_burst.ensures.bytes)

pub returns-in-BurstWrite-clause-stays : goal.returns-in-BurstWrite-clause-stays
returns-in-BurstWrite-clause-stays g c = c.put_burst.ensures.stays

pub returns-in-BurstRead-clause-stays : goal.returns-in-BurstRead-clause-stays
returns-in-BurstRead-clause-stays g c = c.put_burst-in-BurstRead.ensures.stays

pub returns-in-Reset-clause-bytes : goal.returns-in-Reset-clause-bytes
returns-in-Reset-clause-bytes g c = rw c.in-Reset.is c.put_reset.ensures.bytes

pub returns-in-Reset-clause-stays : goal.returns-in-Reset-clause-stays
returns-in-Reset-clause-stays g c = c.put_reset.ensures.stays
