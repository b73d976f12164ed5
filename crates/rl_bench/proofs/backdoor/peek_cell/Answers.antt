use Rattle.rl_bench.proofs.backdoor.peek_cell.Goals as goal

pub location-requires-clause-mem : goal.location-requires-clause-mem
location-requires-clause-mem c = (c.requires.cell.loc c.in-Loc.mem c.in-Loc.index c.in-Loc.is).0
