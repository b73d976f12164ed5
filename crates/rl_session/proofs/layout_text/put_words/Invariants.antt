-- The words from the next one on are left.
use Rattle.std.proofs.Common.{drop}
use Rattle.std.specs.List.{flat_map}
use Rattle.rl_map.specs.Layout.{words_of, place_at, port_at, map_at}
use Rattle.rl_map.specs.LayoutText.{word_text}
use Rattle.rl_session.specs.LayoutPieces.{words_text}
use Rattle.rl_session.proofs.ListingLemmas.{IsPutUpTo}
use Rattle.rl_session.proofs.layout_text.put_words.Given as goal

abbrev pub invariant-loop-k : goal.invariant-loop-k
invariant-loop-k g l =
    let port = port_at l.layout (place_at l.layout l.place).port in
    IsPutUpTo g.K.Sink l.initial.sink l.sink (words_text l.layout l.place)
    (flat_map (word_text (map_at l.layout port.map).name port.bytes) (drop l.k (words_of l.layout l.place 0)))
