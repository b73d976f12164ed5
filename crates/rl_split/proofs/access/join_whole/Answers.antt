use Rattle.std.proofs.Common.{◌≡◌, ◌+◌, ◌<◌, [], ◌∷◌, ◌++◌, length, take, ap, sym, ◌∙◌, arith}
use Rattle.std.specs.Prelude.{bit_or}
use Rattle.rl_policy.specs.Bits.{bit, from_bits}
use Rattle.rl_policy.proofs.BitLemmas.{bit-zero, bit-or, is_from_bits}
use Rattle.rl_bus.specs.Spread.{spread_bit}
use Rattle.rl_map.specs.Layout.{place_at, words_of}
use Rattle.rl_split.specs.Access.{all_bytes, joined_bit, joined, sent_of}
use Rattle.rl_split.proofs.Sending.{is_here}
use Rattle.rl_split.proofs.Sent.{take_next, taken_length, or_small, value_more, joined_small}
use Rattle.rl_split.proofs.Whole.{lanes_whole, value_whole}
use Rattle.rl_split.proofs.access.join_whole.Goals as goal

pub loop-k-init : goal.loop-k-init
loop-k-init c = is_from_bits 64 0 _ (omega arith) (λ b l. bit-zero b)

pub loop-k-preserved : goal.loop-k-preserved
loop-k-preserved c =
    let l = c.args.layout.now in
    let words = words_of l c.args.place 0 in
    let all = all_bytes (place_at l c.args.place).bytes in
    let k = c.loop-k.k in
    let w = c.word-word.result in
    let answers = c.args.answers.now in
    let here = is_here l c.args.place 0 c.places.ensures.sound c.requires.location in
    let inside : k < length answers = omega (arith, c.loop-k-test.true, c.len-k-end.ensures) in
    let long : length (take k answers) ≡ length (take k words) = taken_length k answers (omega (arith, inside)) ∙ sym (taken_length k words (omega (arith, inside, c.requires.answers))) in
    let lanes = c.lanes_of.ensures ∙ lanes_whole l c.args.place 0 k w here c.word-word.ensures.word in
    let bits = c.spread-value.ensures ∙ ap (λ s. from_bits 64 (spread_bit s (bit c.word.result))) lanes in
    value_more all (take k words) (take k answers) w c.word.result c.loop-k.value c.spread-value.result (bit_or c.loop-k.value c.spread-value.result) long c.loop-k.invariant bits
    (or_small c.loop-k.value c.spread-value.result (omega (arith, c.loop-k.auto.value-fits)) (omega (arith, c.spread-value.type_inv))) (λ b. bit-or c.loop-k.value c.spread-value.result b)
    ∙ ap (λ ws. from_bits 64 (joined_bit all ws (take k answers ++ c.word.result ∷ []))) (sym (take_next k w words c.word-word.ensures.word))
    ∙ ap (λ xs. from_bits 64 (joined_bit all (take (k + 1) words) xs)) (sym (take_next k c.word.result answers c.word.ensures))

pub returns-clause-value : goal.returns-clause-value
unfolding joined sent_of
returns-clause-value c =
    let l = c.args.layout.now in
    let here = is_here l c.args.place 0 c.places.ensures.sound c.requires.location in
    value_whole l c.args.place c.loop-k.k c.loop-k.value c.args.answers.now here (omega (arith, c.loop-k-test.false, c.len-k-end.ensures, c.requires.answers))
    (omega (arith, c.loop-k-test.false, c.len-k-end.ensures)) c.loop-k.invariant

pub returns-clause-fits : goal.returns-clause-fits
returns-clause-fits c =
    let l = c.args.layout.now in
    let bytes = (place_at l c.args.place).bytes in
    let here = is_here l c.args.place 0 c.places.ensures.sound c.requires.location in
    let is = value_whole l c.args.place c.loop-k.k c.loop-k.value c.args.answers.now here (omega (arith, c.loop-k-test.false, c.len-k-end.ensures, c.requires.answers))
    (omega (arith, c.loop-k-test.false, c.len-k-end.ensures)) c.loop-k.invariant in
    rw is (joined_small (all_bytes bytes) bytes (words_of l c.args.place 0) c.args.answers.now here.row.most here.words.reach)
