use Rattle.std.proofs.Common.{◌+◌, ◌≤◌, subst}
use Rattle.std.specs.Prelude.{All}
use Rattle.std.proofs.lemmas.List.Elements.{All-same}
use Rattle.rl_mam.specs.Mam.{MamData}
use Rattle.rl_mam.proofs.RegionLists.{all_some, all_inside, all_apart}
use Rattle.rl_mam.proofs.mam.Mam.regions.Goals as goal

pub returns-clause-some : goal.returns-clause-some
returns-clause-some c = rw c.deref.ensures.value (all_some 0 _ _ c.self.invariant.apart)

pub returns-clause-inside : goal.returns-clause-inside
returns-clause-inside c =
    subst (λ (m : MamData). All (λ r. r.first + r.len ≤ m.size) c.deref.result.now) c.self.view_is
    (All-same (λ r. r.first + r.len ≤ c.self.inside.size) _ _ c.deref.ensures.value (all_inside 0 _ _ c.self.invariant.apart))

pub returns-clause-apart : goal.returns-clause-apart
returns-clause-apart c = rw c.deref.ensures.value (all_apart 0 _ _ c.self.invariant.apart)
