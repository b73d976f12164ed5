use Rattle.std.proofs.Common.{ap, rules}
use Rattle.rl_play.specs.declared.playing.Turn.TheVariants.{Stop}
use Rattle.rl_play.proofs.WrittenLemmas.{from_sink}
use Rattle.rl_play.proofs.playing.play_through.Goals as goal

pub returns-clause-keeps_earlier : goal.returns-clause-keeps_earlier
returns-clause-keeps_earlier g c =
    let w = rw (← c.requires.earlier) at c.play_lines.new.out.keeps_earlier in
    search (rules, w)

pub returns-clause-plays : goal.returns-clause-plays
returns-clause-plays g c =
    let p = from_sink g.K.Sink.written _ _ _ _ _ _ _ _ _ c.new-out.ensures.sink c.play_lines.ensures.plays in
    search (rules, p)

pub returns-clause-ready : goal.returns-clause-ready
returns-clause-ready g c = c.play_lines.ensures.ready

pub returns-clause-parts : goal.returns-clause-parts
returns-clause-parts g c = c.play_lines.ensures.parts

pub returns-clause-again : goal.returns-clause-again
returns-clause-again g c = λ fault. (c.play_lines.ensures.leaves.goes_on (ap Stop fault)).again

pub returns-clause-found : goal.returns-clause-found
returns-clause-found g c = c.play_lines.ensures.leaves.reads.found

pub returns-clause-source_later : goal.returns-clause-source_later
returns-clause-source_later g c = c.play_lines.ensures.leaves.leaves.source_later
