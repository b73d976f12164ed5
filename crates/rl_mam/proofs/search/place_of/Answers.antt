use Rattle.std.proofs.Common.{nat_lt}
use Rattle.rl_mam.proofs.RegionLists.{place_some, place_none}
use Rattle.rl_mam.proofs.search.place_of.Goals as goal

pub returns-in-Some : goal.returns-in-Some
returns-in-Some c = place_some (λ r. nat_lt c.args.first r.first) c.args.regions.now c.in-Some.place c.in-Some.ensures

pub returns-in-None : goal.returns-in-None
returns-in-None c = place_none (λ r. nat_lt c.args.first r.first) c.args.regions.now c.in-None.ensures
