use Rattle.std.proofs.Common.{◌++◌, length, slice_range, ap, ◌∙◌, arith}
use Rattle.rl_report.proofs.RangeLemmas.{spliced}
use Rattle.rl_play.proofs.buffered.Buffered.keep.Goals as goal

pub returns-clause-kept : goal.returns-clause-kept
returns-clause-kept g c =
    let s = c.args.self.now in
    let e = c.copy_behind.ensures in
    spliced s.bytes _ s.start s.end (length c.args.piece.now) (omega (arith, s.ordered)) e.before ∙ ap
    (λ l. slice_range s.bytes s.start s.end ++ l) e.copied

pub invariant_of-self : goal.invariant_of-self
invariant_of-self g c =
    let s = c.args.self.now in
    record { keeps_earlier = s.keeps_earlier; ordered = omega (arith, s.ordered); within = omega (arith, c.requires.room) }
