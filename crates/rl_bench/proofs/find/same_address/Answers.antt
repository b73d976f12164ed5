use Rattle.std.proofs.Common.{sym, ap, ◌∙◌}
use Rattle.rl_map.specs.Layout.{key_of}
use Rattle.rl_bench.proofs.StretchLemmas.{any_default}
use Rattle.rl_bench.proofs.find.same_address.Goals as goal

pub returns : goal.returns
returns c apart d same =
    let words = c.args.words.now in
    c.stands_at.ensures.key (sym c.stands_at.ensures.test ∙ apart)
    (ap key_of (any_default words c.args.j _ d c.requires.j) ∙ same ∙ ap key_of (any_default words c.args.k d _ c.requires.k))
