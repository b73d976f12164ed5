use Rattle.std.proofs.Common.{sym, ◌∙◌, arith}
use Rattle.rl_bench.specs.Beats.{no_word}
use Rattle.rl_bench.proofs.HintLemmas.{hint_at, stretch_of_hint}
use Rattle.rl_bench.proofs.hints.Hints.find.Goals as goal

pub has_address-requires : goal.has_address-requires
has_address-requires c =
    let at = c.index-at.result.now in
    let h = hint_at c.args.words.now c.args.self.now.slots.items c.slot_of.result at c.requires (omega (arith, c.args.self.now.full, c.slot_of.ensures)) c.index-at.ensures in
    let s = h no_word c.if-at.true in
    omega (arith, c.if-at.true, s.within)

pub returns-then-has_address : goal.returns-then-has_address
returns-then-has_address c =
    let at = c.index-at.result.now in
    let h = hint_at c.args.words.now c.args.self.now.slots.items c.slot_of.result at c.requires (omega (arith, c.args.self.now.full, c.slot_of.ensures)) c.index-at.ensures in
    stretch_of_hint c.args.words.now at c.args.port c.args.address no_word h c.if-at.true (sym (c.has_address.ensures no_word) ∙ c.if-has_address.true)
