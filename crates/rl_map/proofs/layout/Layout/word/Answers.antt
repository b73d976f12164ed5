use Rattle.std.proofs.Common.{◌*◌, ◌<◌, length, sym, subst, arith}
use Rattle.rl_map.specs.Layout.{words_of, IsLocation}
use Rattle.rl_map.proofs.Keeping.{many_kept, kept_low, low_at, IsWordOf, word_kept}
use Rattle.rl_map.proofs.Opened.{opened}
use Rattle.rl_map.proofs.layout.Layout.word.Goals as goal

pub word-requires-clause-number : goal.word-requires-clause-number
word-requires-clause-number c =
    let l = opened c.self.inside in
    let there : IsLocation l c.args.place c.args.index = subst (λ v. IsLocation v c.args.place c.args.index) (sym c.self.view_is) c.requires.location in
    let number : c.args.k < length (words_of l c.args.place c.args.index) = subst (λ v. c.args.k < length (words_of v c.args.place c.args.index)) (sym c.self.view_is) c.requires.number in
    omega (arith, number, many_kept l c.self.inside.words.items c.self.invariant.1 c.args.place c.args.index there _ c.index-kept.ensures)

pub word-requires-clause-low : goal.word-requires-clause-low
word-requires-clause-low c =
    let l = opened c.self.inside in
    let there : IsLocation l c.args.place c.args.index = subst (λ v. IsLocation v c.args.place c.args.index) (sym c.self.view_is) c.requires.location in
    low_at _ (c.args.index * c.index-kept.result.now.step) c.args.k (kept_low l c.self.inside.words.items c.self.invariant.0 c.self.invariant.1 c.args.place c.args.index there _ c.index-kept.ensures)
    (word-requires-clause-number c)

pub returns : goal.returns
returns c =
    let l = opened c.self.inside in
    let there : IsLocation l c.args.place c.args.index = subst (λ v. IsLocation v c.args.place c.args.index) (sym c.self.view_is) c.requires.location in
    let is = subst (λ v. IsWordOf v c.args.place c.args.index c.args.k c.word.result) c.self.view_is
    (word_kept l c.self.inside.words.items c.self.invariant.0 c.self.invariant.1 c.args.place c.args.index c.args.k there _ c.index-kept.ensures c.word.result c.word.ensures) in
    record { word = is.word; on = is.on }
