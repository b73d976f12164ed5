use Rattle.std.proofs.Common.{◌≡◌, ◌+◌, ◌<◌, false, List, [], ◌∷◌, ◌++◌, length, take, ap, sym, ◌∙◌, refl, arith}
use Rattle.std.specs.Prelude.{ℕ, bit_or}
use Rattle.std.proofs.lemmas.List.{take_all, length-map, length_push}
use Rattle.rl_policy.specs.Bits.{bit, from_bits}
use Rattle.rl_policy.proofs.BitLemmas.{bit-zero, bit-or, is_from_bits}
use Rattle.rl_bus.specs.Spread.{spread_bit}
use Rattle.rl_map.specs.Layout.{LayoutData, place_at, words_of}
use Rattle.rl_split.specs.Access.{sent_words, joined_bit, joined, sent_of, ops_of}
use Rattle.rl_split.specs.Lists.{ops_in}
use Rattle.rl_split.proofs.Sending.{is_here}
use Rattle.rl_split.proofs.Sent.{Pair, is_sent, is_left_out, one_more, no_more, ops_length, room_left, all_sent, take_next, taken_length, or_small, value_more, joined_small}
use Rattle.rl_split.proofs.access.join.Goals as goal
use Rattle.rl_split.proofs.access.join.Goals.{then-lanes-ne0, else-lanes-ne0}

-- as many operations as words are sent
total : (l : LayoutData) (place index chosen : ℕ) (words : List Pair) → ops_in words ≡ ops_of l place index chosen 0 false → length words ≡ length (sent_words chosen (words_of l place index))
total l place index chosen words e = sym (length-map words (λ (p : Pair). p.0)) ∙ ap length e ∙ ops_length l place index chosen 0 false

pub loop-sent-init : goal.loop-sent-init
loop-sent-init c = record { count = refl; value = is_from_bits 64 0 _ (omega arith) (λ b l. bit-zero b) }

pub word-word-requires-clause-number : goal.word-word-requires-clause-number
word-word-requires-clause-number c =
    let words = words_of c.args.layout.now c.args.place c.args.index in
    room_left c.args.chosen c.loop-sent.k words (omega (
      arith,
      c.loop-sent.invariant.count,
      c.loop-sent-test.true,
      c.len.ensures,
      total c.args.layout.now c.args.place c.args.index c.args.chosen
          c.args.words.now c.requires.words,
    ))

pub overflow_add-k : goal.overflow_add-k
overflow_add-k c =
    let l = c.args.layout.now in
    let words = words_of l c.args.place c.args.index in
    let here = is_here l c.args.place c.args.index c.places.ensures.sound c.requires.location in
    omega (
      arith,
      here.words.few,
      room_left c.args.chosen c.loop-sent.k words (omega (
        arith,
        c.loop-sent.invariant.count,
        c.loop-sent-test.true,
        c.len.ensures,
        total l c.args.place c.args.index c.args.chosen c.args.words.now c.requires.words,
      )),
    )

pub loop-sent-smaller : goal.loop-sent-smaller
loop-sent-smaller c =
    let l = c.args.layout.now in
    let words = words_of l c.args.place c.args.index in
    let room : c.loop-sent.k < length words = room_left c.args.chosen c.loop-sent.k words (omega (
      arith,
      c.loop-sent.invariant.count,
      c.loop-sent-test.true,
      c.len.ensures,
      total l c.args.place c.args.index c.args.chosen c.args.words.now c.requires.words,
    )) in
    omega (arith, room)

pub loop-sent-preserved : goal.loop-sent-preserved
loop-sent-preserved c =
    let l = c.args.layout.now in
    let words = words_of l c.args.place c.args.index in
    let chosen = c.args.chosen in
    let k = c.loop-sent.k in
    let sent = c.loop-sent.sent in
    let w = c.word-word.result in
    let answers = c.args.answers.now in
    let so_far = sent_words chosen (take k words) in
    let was = c.loop-sent.invariant in
    let inside : sent < length answers = omega (arith, c.loop-sent-test.true, c.len.ensures, c.requires.answers) in
    let long : length (take sent answers) ≡ length so_far = taken_length sent answers (omega (arith, inside)) ∙ was.count in
    elim c.if-lanes-ne0.branch [
      | then-lanes-ne0 v ↦
          let more = one_more chosen k words w c.word-word.ensures.word (is_sent chosen w c.lanes_for-lanes.result c.lanes_for-lanes.ensures v.if-lanes-ne0.true) in
          let next = take_next sent v.word.result answers v.word.ensures in
          let bits = v.spread-value.ensures ∙ ap (λ s. from_bits 64 (spread_bit s (bit v.word.result))) c.lanes_for-lanes.ensures in
          record {
            count = omega (arith, v.sent-is, was.count, ap length more, length_push so_far w);
            value = v.value-is
                ∙ value_more chosen so_far (take sent answers) w v.word.result c.loop-sent.value v.spread-value.result (bit_or c.loop-sent.value v.spread-value.result) long was.value bits
                (or_small c.loop-sent.value v.spread-value.result (omega (arith, c.loop-sent.auto.value-fits)) (omega (arith, v.spread-value.type_inv))) (λ b. bit-or c.loop-sent.value
                v.spread-value.result b)
                ∙ ap (λ ws. from_bits 64 (joined_bit chosen ws (take sent answers ++ v.word.result ∷ []))) (sym more)
                ∙ ap (λ xs. from_bits 64 (joined_bit chosen (sent_words chosen (take (k + 1) words)) xs)) (sym next ∙ ap (λ n. take n answers) (sym v.sent-is));
          }
      | else-lanes-ne0 v ↦
          let same = no_more chosen k words w c.word-word.ensures.word (is_left_out chosen w c.lanes_for-lanes.result c.lanes_for-lanes.ensures v.if-lanes-ne0.false) in
          record {
            count = v.sent-is ∙ was.count ∙ ap length (sym same);
            value = v.value-is ∙ was.value ∙ ap (λ ws. from_bits 64 (joined_bit chosen ws (take sent answers))) (sym same) ∙ ap (λ n. from_bits 64 (joined_bit chosen (sent_words chosen
                (take (k + 1) words)) (take n answers))) (sym v.sent-is);
          }
    ]

pub returns-clause-value : goal.returns-clause-value
unfolding joined sent_of
returns-clause-value c =
    let l = c.args.layout.now in
    let words = words_of l c.args.place c.args.index in
    let chosen = c.args.chosen in
    let answers = c.args.answers.now in
    let many = total l c.args.place c.args.index chosen c.args.words.now c.requires.words in
    let all = all_sent chosen c.loop-sent.k words (omega (arith, c.loop-sent.invariant.count, c.loop-sent-test.false, c.len.ensures, many)) in
    let every = take_all c.loop-sent.sent answers (omega (arith, c.loop-sent-test.false, c.len.ensures, c.requires.answers)) in
    c.loop-sent.invariant.value
    ∙ ap (λ ws. from_bits 64 (joined_bit chosen ws (take c.loop-sent.sent answers))) all
    ∙ ap (λ xs. from_bits 64 (joined_bit chosen (sent_words chosen words) xs)) every

pub returns-clause-fits : goal.returns-clause-fits
returns-clause-fits c =
    let l = c.args.layout.now in
    let words = words_of l c.args.place c.args.index in
    let chosen = c.args.chosen in
    let here = is_here l c.args.place c.args.index c.places.ensures.sound c.requires.location in
    let many = total l c.args.place c.args.index chosen c.args.words.now c.requires.words in
    let all = all_sent chosen c.loop-sent.k words (omega (arith, c.loop-sent.invariant.count, c.loop-sent-test.false, c.len.ensures, many)) in
    rw (c.loop-sent.invariant.value, all) (joined_small chosen (place_at l c.args.place).bytes words (take c.loop-sent.sent c.args.answers.now) here.row.most here.words.reach)
