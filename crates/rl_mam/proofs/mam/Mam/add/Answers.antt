use Rattle.std.proofs.Common.{◌≡◌, ◌≤◌, nat_lt, length, sym, ap, ◌∙◌, subst, arith}
use Rattle.std.specs.Prelude.{insert}
use Rattle.rl_mam.specs.Regions.{AreApart, IsFree, added, place_of}
use Rattle.rl_mam.specs.Mam.{MamData}
use Rattle.rl_mam.proofs.RegionLists.{place_within, apart-added, is_clear}
use Rattle.rl_mam.proofs.mam.Mam.add.Goals as goal

pub insert-requires : goal.insert-requires
insert-requires c =
    let within : place_of c.deref.result.now c.args.region.first ≤ length c.deref.result.now = place_within (λ r. nat_lt c.args.region.first r.first) c.deref.result.now in
    omega (arith, c.place_of-place.ensures, c.deref.ensures.len)

pub invariant_of-self-2 : goal.invariant_of-self-2
invariant_of-self-2 c =
    let size = c.self.inside.size in
    let rs = c.self.inside.regions.items in
    let r = c.args.region in
    let place : c.place_of-place.result ≡ place_of rs r.first = c.place_of-place.ensures ∙ ap (λ x. place_of x r.first) c.deref.ensures.value in
    let is : c.insert.new.self.items ≡ added r rs = c.in_ok-insert.ensures.items ∙ ap (λ n. insert rs n r) place in
    let free : IsFree size rs r.first r.len = subst (λ (m : MamData). IsFree m.size m.regions r.first r.len) (sym c.self.view_is) c.requires.free in
    record {
      small = c.self.invariant.small;
      apart = subst (AreApart 0 size) (sym is)
          (apart-added 0 size r rs c.self.invariant.apart (omega arith) c.requires.some free.inside (is_clear 0 size r.first r.len rs c.self.invariant.apart c.requires.some free.free));
    }
