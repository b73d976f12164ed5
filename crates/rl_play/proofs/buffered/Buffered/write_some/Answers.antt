use Rattle.std.proofs.Common.{sym, subst, slice_range, arith}
use Rattle.std.specs.Io.KnownBytes.{Keeps, append_known}
use Rattle.rl_report.proofs.RangeLemmas.{range_less}
use Rattle.rl_log.proofs.KnownLemmas.{earlier_grown}
use Rattle.rl_play.proofs.BufferLemmas.{told_after}
use Rattle.rl_play.proofs.buffered.Buffered.write_some.Goals as goal

pub returns-clause-told : goal.returns-clause-told
returns-clause-told g c =
    let s = c.args.self.now in
    let n = c.in_ok-count.count in
    subst (λ l. Keeps (append_known (g.K.Sink.written s.sink.now) (slice_range s.bytes s.start s.end))
    (append_known (g.K.Sink.written c.write_part.new.sink) l))
    (sym (range_less s.bytes s.start s.end n (omega arith)))
    (told_after _ _ (slice_range s.bytes s.start s.end) n c.in_ok-count.ensures.bytes)

pub invariant_of-self-2-clause-keeps_earlier : goal.invariant_of-self-2-clause-keeps_earlier
invariant_of-self-2-clause-keeps_earlier g c =
    earlier_grown _ _ _ _ c.args.self.now.keeps_earlier c.in_ok-count.ensures.bytes
