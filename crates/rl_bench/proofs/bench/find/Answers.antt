use Rattle.std.proofs.Common.{List, ◌∙◌, sym, ap, subst, length}
use Rattle.std.specs.Prelude.{All, filter, slice_get}
use Rattle.rl_bus.specs.declared.table.WordRow.{WordRow}
use Rattle.rl_bench.specs.Stretch.{IsHint, AreOrdered}
use Rattle.rl_bus.specs.Setup.{stands_for}
use Rattle.rl_bench.proofs.StretchLemmas.{words_there, beat_is}
use Rattle.rl_bench.proofs.bench.find.Goals as goal

pub stretch_at-at-requires-clause-hints : goal.stretch_at-at-requires-clause-hints
stretch_at-at-requires-clause-hints c =
    let P : List WordRow → Type 0 = λ words. All (IsHint words) c.args.hints.now.slots.items in
    subst P (sym c.words-words.ensures) c.requires

pub returns-clause-at : goal.returns-clause-at
returns-clause-at c =
    words_there c.args.board.now.tables.words.value.items c.stretch_at-at.result.first c.stretch_at-at.result.end c.args.port c.args.op.now.address _ c.words-words.ensures c.stretch_at-at.ensures

pub returns-clause-beat : goal.returns-clause-beat
returns-clause-beat c =
    let words = c.args.board.now.tables.words.value.items in
    let at = c.stretch_at-at.result in
    c.beat_at-beat.ensures
    ∙ beat_is words c.args.beats.now c.args.port c.args.op.now.address at.first at.end
    (words_there words at.first at.end c.args.port c.args.op.now.address _ c.words-words.ensures c.stretch_at-at.ensures)

pub returns-clause-word : goal.returns-clause-word
returns-clause-word c =
    let words = c.args.board.now.tables.words.value.items in
    let at = c.stretch_at-at.result in
    let q = stands_for c.args.port c.args.op.now.address c.args.op.now.write in
    c.find_word-here.ensures.word
    ∙ ap (λ ws. slice_get (filter q ws) c.beat_at-beat.result) c.words-words.ensures
    ∙ ap (slice_get (filter q words))
    (c.beat_at-beat.ensures
    ∙ beat_is words c.args.beats.now c.args.port c.args.op.now.address at.first at.end
    (words_there words at.first at.end c.args.port c.args.op.now.address _ c.words-words.ensures c.stretch_at-at.ensures))

pub returns-clause-count : goal.returns-clause-count
returns-clause-count c =
    c.find_word-here.ensures.count ∙ ap (λ words. length (filter (stands_for c.args.port c.args.op.now.address c.args.op.now.write) words)) c.words-words.ensures

pub stretch_at-at-requires-clause-rise : goal.stretch_at-at-requires-clause-rise
stretch_at-at-requires-clause-rise c = subst AreOrdered (sym c.words-words.ensures) c.args.board.now.sound.words_rise
