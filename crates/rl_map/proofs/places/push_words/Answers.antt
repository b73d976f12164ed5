use Rattle.std.proofs.Common.{◌+◌, [], ◌∷◌, ◌++◌, map, drop, ap, ◌∙◌, arith}
use Rattle.rl_map.specs.Layout.{word_row}
use Rattle.rl_map.proofs.Lists.{mapped_next, mapped_done}
use Rattle.rl_map.proofs.places.push_words.Goals as goal

pub loop-word-preserved : goal.loop-word-preserved
loop-word-preserved c =
    let words = c.args.words.now in
    let i = c.loop-word.word-index in
    let f = word_row c.args.place.now c.args.number c.args.index in
    let rest = map f (drop (i + 1) words) in
    ap (λ rows. rows ++ rest) c.in_ok-push.ensures.items
    ∙ ap (λ row. (c.loop-word.rows.items ++ row ∷ []) ++ rest) c.word_row.ensures
    ∙ mapped_next f c.loop-word.rows.items words i _ c.loop-word-test.true ∙ c.loop-word.invariant

pub returns : goal.returns
returns c =
    mapped_done (word_row c.args.place.now c.args.number c.args.index) c.loop-word.rows.items _ c.args.words.now c.loop-word.word-index
    (omega (arith, c.loop-word-test.false)) c.loop-word.invariant
