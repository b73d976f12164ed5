use Rattle.std.proofs.Common.{◌<◌, length, sym, ap, ◌∙◌, subst, arith}
use Rattle.rl_map.specs.Layout.{words_of, IsLocation}
use Rattle.rl_map.proofs.Keeping.{many_kept, kept_count}
use Rattle.rl_map.proofs.Opened.{opened}
use Rattle.rl_map.proofs.layout.Layout.words.Goals as goal

pub returns : goal.returns
returns c =
    let l = opened c.self.inside in
    let kepts = c.self.inside.words.items in
    let low : c.args.place < length l.places = subst (λ v. c.args.place < length v.places) (sym c.self.view_is) c.requires in
    let few = kept_count l kepts c.self.invariant.0 c.self.invariant.1 c.args.place low _ c.index-kept.ensures in
    record {
      count = λ index at. c.count.ensures
          ∙ many_kept l kepts c.self.invariant.1 c.args.place index (subst (λ v. IsLocation v c.args.place index) (sym c.self.view_is) at) _ c.index-kept.ensures
          ∙ ap (λ v. length (words_of v c.args.place index)) c.self.view_is;
      some = omega (arith, c.count.ensures, few.0);
      few = omega (arith, c.count.ensures, few.1);
    }
