use Rattle.std.proofs.Common.{sym, ap, ◌∙◌, subst}
use Rattle.std.specs.Prelude.{All}
use Rattle.rl_map.specs.Partition.{IsWordOn}
use Rattle.rl_map.specs.Layout.{place_at, port_at, words_of, IsLocation}
use Rattle.rl_map.proofs.Keeping.{kept_low, words_kept}
use Rattle.rl_map.proofs.Opened.{opened}
use Rattle.rl_map.proofs.layout.Layout.location_words.Goals as goal

pub location-requires : goal.location-requires
location-requires c =
    let l = opened c.self.inside in
    kept_low l c.self.inside.words.items c.self.invariant.0 c.self.invariant.1 c.args.place c.args.index
    (subst (λ v. IsLocation v c.args.place c.args.index) (sym c.self.view_is) c.requires) _ c.index-kept.ensures

pub returns : goal.returns
returns c =
    let l = opened c.self.inside in
    let there : IsLocation l c.args.place c.args.index = subst (λ v. IsLocation v c.args.place c.args.index) (sym c.self.view_is) c.requires in
    let is = words_kept l c.self.inside.words.items c.self.invariant.0 c.self.invariant.1 c.args.place c.args.index there _ c.index-kept.ensures c.location.result c.location.ensures in
    record {
      words = is.0 ∙ ap (λ v. words_of v c.args.place c.args.index) c.self.view_is;
      on = subst (λ v. All (IsWordOn (port_at v (place_at v c.args.place).port).kind (port_at v (place_at v c.args.place).port).bytes) c.location.result) c.self.view_is is.1;
    }
