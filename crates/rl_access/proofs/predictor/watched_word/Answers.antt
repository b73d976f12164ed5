use Rattle.std.proofs.Common.{sym, ap, ◌∙◌}
use Rattle.rl_map.specs.Layout.{port_at, has_right}
use Rattle.rl_access.proofs.WholeGathered.{word_watched}
use Rattle.rl_access.proofs.predictor.watched_word.Goals as goal

pub returns-then-has_right-clause-watched : goal.returns-then-has_right-clause-watched
returns-then-has_right-clause-watched c =
    let l = c.args.layout.now in
    let op = c.args.op.now in
    sym (word_watched l c.args.place op c.places.ensures.sound c.requires.place c.requires.word
    (ap (λ p. (port_at l p).explicit) (sym c.port_of-port.ensures.port) ∙ sym c.explicit.ensures ∙ c.if-explicit.true)
    (ap (λ r. has_right r op.write) (sym c.rights.ensures) ∙ sym c.has_right.ensures ∙ c.if-has_right.true))
