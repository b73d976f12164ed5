use Rattle.std.proofs.Common.{rules}
use Rattle.rl_session.specs.Judged.{judged}
use Rattle.rl_session.specs.Session.{opening_of}
use Rattle.rl_session_run.proofs.JudgedLemmas.{all_written}
use Rattle.rl_vcd.proofs.RunLemmas.{session_written}
use Rattle.rl_vcd.proofs.run.run_through.Goals as goal

pub returns-clause-keeps_earlier : goal.returns-clause-keeps_earlier
returns-clause-keeps_earlier g c =
    let w = rw (← c.requires.earlier) at c.end_buffered.new.log.keeps_earlier in
    search (rules, w)

pub returns-clause-judged : goal.returns-clause-judged
returns-clause-judged g c =
    let f = c.end_buffered.ensures in
    let keeps = rw (← c.requires.earlier) at c.end_buffered.new.log.keeps_earlier in
    let w = all_written _ (λ bytes. judged bytes _) _ _ _ _ _ _ _ f.kept keeps f.told f.whole
    (rw c.new-out.ensures.told at c.run_open-ran.ensures.judged) in
    search (rules, w)

pub returns-clause-draws : goal.returns-clause-draws
returns-clause-draws g c =
    let f = c.end_buffered.ensures in
    let p = c.run_open-ran.ensures in
    let keeps = rw (← c.requires.earlier) at c.end_buffered.new.log.keeps_earlier in
    let w = session_written g.K.Sink _ _ _ _ _ _ _ _ _ _ _ f.kept f.given_up keeps f.told f.whole
    (λ fault. f.at_fault fault (p.flushed fault c.new-out.ensures.empty)) _ (λ bytes. opening_of bytes _)
    (rw c.new-out.ensures.told at p.draws) in
    search (rules, w)

pub end_buffered-requires : goal.end_buffered-requires
end_buffered-requires g c = c.run_open-ran.ensures.leaves.cause.known

pub returns-clause-source_later : goal.returns-clause-source_later
returns-clause-source_later g c = c.run_open-ran.ensures.leaves.source_later
