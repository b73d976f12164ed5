use Rattle.std.proofs.Common.{◌≡◌, ◌==◌, not, rules, ap, ◌∙◌}
use Rattle.std.proofs.lemmas.Fn.{filter_same}
use Rattle.rl_mam.specs.Regions.{without}
use Rattle.rl_mam.specs.Mam.{MamData, releasing}
use Rattle.rl_mam.proofs.RegionLists.{apart-filter}
use Rattle.rl_mam.proofs.mam.Mam.release.Goals as goal

pub invariant_of-self : goal.invariant_of-self
invariant_of-self c =
    let left : c.retain.new.self.items ≡ without c.self.inside.regions.items c.args.first = filter_same _ _ _ (λ x b f' k. search rules) _ _ c.retain.ensures.filtered in
    record { small = c.self.invariant.small; apart = rw left (apart-filter (λ r. not (r.first == c.args.first)) 0 _ _ c.self.invariant.apart) }

pub returns-clause-left : goal.returns-clause-left
returns-clause-left c =
    let left : c.retain.new.self.items ≡ without c.self.inside.regions.items c.args.first = filter_same _ _ _ (λ x b f' k. search rules) _ _ c.retain.ensures.filtered in
    ap (λ rs. let m : MamData = record { mem = c.self.inside.mem; size = c.self.inside.size; regions = rs } in m) left
    ∙ ap (λ (m : MamData). releasing m c.args.first) c.self.view_is
