use Rattle.std.proofs.Common.{◌≤◌, length, map, ap, sym, subst, arith}
use Rattle.std.specs.Prelude.{All}
use Rattle.std.proofs.lemmas.List.{length-map}
use Rattle.rl_bus.specs.Wire.{Fits}
use Rattle.rl_map.specs.declared.word.Word.{Word}
use Rattle.rl_map.specs.Layout.{place_at, words_of}
use Rattle.rl_split.specs.Access.{sent_words, op_of, ops_of, orders_of, sent_of, kind_of}
use Rattle.rl_split.proofs.Sending.{is_here}
use Rattle.rl_split.proofs.Sent.{Pair, all_kept, some_sent, ops_fit}
use Rattle.rl_split.proofs.access.split.Goals as goal

pub returns-clause-ops : goal.returns-clause-ops
unfolding ops_of sent_of
returns-clause-ops c =
    (all_kept c.args.layout.now c.args.place c.args.index c.args.chosen c.args.value c.loop-k.k c.args.write _
    (omega (arith, c.loop-k-test.false, c.words-k-end.ensures.count c.args.index c.requires.location)) c.loop-k.invariant.words).ops

pub returns-clause-orders : goal.returns-clause-orders
unfolding orders_of sent_of
returns-clause-orders c =
    (all_kept c.args.layout.now c.args.place c.args.index c.args.chosen c.args.value c.loop-k.k c.args.write _
    (omega (arith, c.loop-k-test.false, c.words-k-end.ensures.count c.args.index c.requires.location)) c.loop-k.invariant.words).orders

pub returns-clause-some : goal.returns-clause-some
returns-clause-some c =
    let l = c.args.layout.now in
    let words = words_of l c.args.place c.args.index in
    let pair : Word → Pair = λ w. (op_of l c.args.place c.args.chosen c.args.value c.args.write w, w.order) in
    let end : length (words_of l c.args.place c.args.index) ≤ c.loop-k.k = omega (arith, c.loop-k-test.false, c.words-k-end.ensures.count c.args.index c.requires.location) in
    let here = is_here l c.args.place c.args.index c.places.ensures.sound c.requires.location in
    omega (
      arith,
      ap length (all_kept l c.args.place c.args.index c.args.chosen c.args.value c.loop-k.k c.args.write _ end c.loop-k.invariant.words).pairs,
      length-map (sent_words c.args.chosen words) pair,
      some_sent c.args.chosen (place_at l c.args.place).bytes words here.row.most c.requires.chosen here.words.reach,
    )

pub returns-clause-fits : goal.returns-clause-fits
returns-clause-fits c =
    let l = c.args.layout.now in
    let end : length (words_of l c.args.place c.args.index) ≤ c.loop-k.k = omega (arith, c.loop-k-test.false, c.words-k-end.ensures.count c.args.index c.requires.location) in
    let here = is_here l c.args.place c.args.index c.places.ensures.sound c.requires.location in
    subst (All (Fits (kind_of l c.args.place)))
    (sym (all_kept l c.args.place c.args.index c.args.chosen c.args.value c.loop-k.k c.args.write _ end c.loop-k.invariant.words).ops)
    (ops_fit l c.args.place c.args.index c.args.chosen c.args.value c.args.write here)
