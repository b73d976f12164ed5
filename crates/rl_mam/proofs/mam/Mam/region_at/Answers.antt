use Rattle.std.proofs.Common.{◌∙◌, ap}
use Rattle.rl_mam.specs.Regions.{region_at}
use Rattle.rl_mam.proofs.RegionLists.{some_first, some_inside}
use Rattle.rl_mam.proofs.mam.Mam.region_at.Goals as goal

pub returns-clause-first : goal.returns-clause-first
returns-clause-first c = some_first c.self.inside.size c.args.first c.self.inside.regions.items c.region_at.result c.self.invariant.apart (c.region_at.ensures ∙ ap (λ rs. region_at rs c.args.first)
    c.deref.ensures.value)

pub returns-clause-inside : goal.returns-clause-inside
returns-clause-inside c = some_inside c.self.inside.size c.args.first c.self.inside.regions.items c.region_at.result c.self.invariant.apart c.self.invariant.small (c.region_at.ensures ∙ ap
    (λ rs. region_at rs c.args.first) c.deref.ensures.value)
