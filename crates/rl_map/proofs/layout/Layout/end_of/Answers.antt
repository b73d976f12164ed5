use Rattle.std.proofs.Common.{length, sym, subst}
use Rattle.rl_map.specs.Links.{IsLast}
use Rattle.rl_map.proofs.layout.Layout.end_of.Goals as goal

pub returns : goal.returns
returns c =
    let places = c.self.inside.places.items in
    subst (λ v. IsLast v.places (length v.places) c.args.item c.last.result) c.self.view_is
    (subst (IsLast places (length places) c.args.item) (sym c.last.ensures) (c.self.invariant.2.each_item c.args.item))
