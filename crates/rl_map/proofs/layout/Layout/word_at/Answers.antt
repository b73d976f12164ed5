use Rattle.std.proofs.Common.{◌<◌, length, sym, ap, ◌∙◌, subst, arith}
use Rattle.std.specs.Prelude.{slice_get}
use Rattle.rl_map.specs.Words.{words_with}
use Rattle.rl_map.proofs.Lookups.{words_found_is, none_stand}
use Rattle.rl_map.proofs.layout.Layout.word_at.Goals as goal

pub nth_at-requires : goal.nth_at-requires
nth_at-requires c =
    let h = c.in-Some.ensures.here in
    subst (λ ws. c.args.beat < length (words_with c.args.address ws)) (sym c.location_words.ensures.words) (omega (arith, c.requires.beat, h.count, h.words))

pub unreachable-requires : goal.unreachable-requires
unreachable-requires c =
    let none = none_stand c.args.self.now c.args.port c.args.address c.args.write (sym c.find.ensures.found ∙ c.in-None.is) in
    absurd (omega (arith, c.requires.beat, none))

pub returns : goal.returns
returns c = record {
  word = ap (λ ws. slice_get ws c.args.beat)
      (words_found_is c.args.self.now c.args.port c.args.address c.args.write c.in-Some.here (sym c.find.ensures.found ∙ c.in-Some.is)
      ∙ ap (words_with c.args.address) (sym c.location_words.ensures.words))
      ∙ c.nth_at.ensures;
}
