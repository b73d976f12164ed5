use Rattle.rl_vcd.proofs.session.record_sequence.Goals as goal

pub returns-in-HwReset : goal.returns-in-HwReset
returns-in-HwReset g c = rw c.in-HwReset.is c.hw_reset.ensures

pub returns-in-BitBash : goal.returns-in-BitBash
returns-in-BitBash g c = rw c.in-BitBash.is c.bit_bash.ensures

pub returns-in-Access : goal.returns-in-Access
returns-in-Access g c = rw c.in-Access.is c.access_test.ensures

pub returns-in-Shared : goal.returns-in-Shared
returns-in-Shared g c = rw c.in-Shared.is c.shared_access.ensures

pub returns-in-MemWalk : goal.returns-in-MemWalk
returns-in-MemWalk g c = rw c.in-MemWalk.is c.mem_walk.ensures
