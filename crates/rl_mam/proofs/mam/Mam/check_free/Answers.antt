use Rattle.std.proofs.Common.{◌≡◌, ◌+◌, ◌≤◌, Some, None, sym, ap, subst, arith}
use Rattle.std.specs.Prelude.{find}
use Rattle.rl_mam.specs.Regions.{IsFirstMet, IsFree}
use Rattle.rl_mam.specs.Mam.{MamData}
use Rattle.rl_mam.proofs.RegionLists.{is_met, first_found, none_found, not_taken}
use Rattle.rl_mam.proofs.mam.Mam.check_free.Goals as goal

pub returns-in-Some-clause-cause : goal.returns-in-Some-clause-cause
returns-in-Some-clause-cause c =
    let size : c.self.inside.size ≡ c.args.self.now.size = ap (λ (m : MamData). m.size) c.self.view_is in
    let found = subst (λ rs. find (is_met c.args.first c.args.len) rs ≡ Some c.in-Some.met) c.deref.ensures.value (sym c.in-Some.ensures) in (
      omega arith,
      omega arith,
      subst (λ (m : MamData). IsFirstMet m.regions c.args.first c.args.len c.in-Some.met.first) c.self.view_is
          (first_found 0 c.self.inside.size c.args.first c.args.len _ c.in-Some.met c.self.invariant.apart found),
    )

pub returns-in-None-clause-free : goal.returns-in-None-clause-free
returns-in-None-clause-free c =
    let none = subst (λ rs. find (is_met c.args.first c.args.len) rs ≡ None) c.deref.ensures.value (sym c.in-None.ensures) in
    let clear = none_found c.args.first c.args.len _ none in
    let inside : c.args.first + c.args.len ≤ c.self.inside.size = omega arith in
    subst (λ (m : MamData). IsFree m.size m.regions c.args.first c.args.len) c.self.view_is
    (record { inside = inside; free = λ x low high. not_taken c.args.first c.args.len x _ clear low high })
