use Rattle.rl_mam.proofs.RegionLists.{location_none, location_some, location_first}
use Rattle.rl_mam.proofs.mam.Mam.location.Goals as goal

pub returns-in-None-clause-location : goal.returns-in-None-clause-location
returns-in-None-clause-location c = location_none _ c.args.k c.args.count c.in-None.ensures.region

pub returns-in-Some-clause-location : goal.returns-in-Some-clause-location
returns-in-Some-clause-location c = location_some _ c.in-Some.region c.args.k c.args.count c.location.result c.in-Some.ensures.region c.location.ensures

pub returns-in-Some-clause-at : goal.returns-in-Some-clause-at
returns-in-Some-clause-at c = location_first c.in-Some.region c.args.first c.args.k c.args.count c.location.result c.in-Some.ensures.first c.location.ensures
