use Rattle.std.proofs.Common.{arith}
use Rattle.rl_map.specs.Layout.{words_of, place_at, port_at, map_at}
use Rattle.rl_map.specs.LayoutText.{word_text}
use Rattle.rl_access.proofs.Whole.{first_of_place}
use Rattle.rl_session.proofs.ListingLemmas.{put_done, put_more, put_stopped, no_item}
use Rattle.rl_session.proofs.LayoutLemmas.{next_word}
use Rattle.rl_session.proofs.layout_text.put_words.Goals as goal

pub loop-k-preserved : goal.loop-k-preserved
loop-k-preserved g c =
    let l = c.args.layout.now in
    let port = port_at l (place_at l c.args.place).port in
    put_more _ _ _ _ _ _ _ _ _ c.loop-k.invariant
    (next_word (map_at l port.map).name port.bytes (words_of l c.args.place 0) c.loop-k.k _ c.word.ensures.word)
    (rw (c.map_name-root.ensures, c.port_map.ensures.map, c.port_bytes-bytes.ensures, c.port_of-port.ensures.port) at c.in_ok-put_word.ensures)

pub returns-in_err-put_word : goal.returns-in_err-put_word
returns-in_err-put_word g c =
    let l = c.args.layout.now in
    let port = port_at l (place_at l c.args.place).port in
    put_stopped _ _ _ _ _ _ _ _ _ _ c.from_residual.ensures.0 c.loop-k.invariant
    (next_word (map_at l port.map).name port.bytes (words_of l c.args.place 0) c.loop-k.k _ c.word.ensures.word)
    (rw (c.map_name-root.ensures, c.port_map.ensures.map, c.port_bytes-bytes.ensures, c.port_of-port.ensures.port) at c.in_err-put_word.ensures)

pub returns : goal.returns
returns g c =
    let l = c.args.layout.now in
    let port = port_at l (place_at l c.args.place).port in
    let count = c.words-k-end.ensures.count 0 (first_of_place l c.args.place c.requires.sound c.requires.place) in
    put_done _ _ _ _ _ _ c.loop-k.invariant
    (no_item (word_text (map_at l port.map).name port.bytes) (words_of l c.args.place 0) c.loop-k.k (omega (arith, count, c.loop-k-test.false)))
