use Rattle.std.proofs.Common.{arith}
use Rattle.rl_report.proofs.PieceLemmas.{keeps_more, next_piece, no_piece, keeps_stopped, keeps_all}
use Rattle.rl_report.proofs.GatherLemmas.{less_over, over_stopped, none_over}
use Rattle.rl_report.proofs.pieces.gather_pieces.Goals as goal

pub loop-piece-preserved : goal.loop-piece-preserved
loop-piece-preserved g c =
    let i = c.loop-piece.invariant in
    let e = c.in_ok-gather.ensures in
    record {
      put = less_over _ _ _ _ _ _ _ _ _ _ i.put (next_piece (λ piece. piece.now) c.args.pieces.now c.loop-piece.piece-index _ c.loop-piece-test.true) e.bytes.whole;
      kept = keeps_more _ _ _ _ _ i.kept e.stays;
    }

pub returns-in_err-gather-clause-bytes : goal.returns-in_err-gather-clause-bytes
returns-in_err-gather-clause-bytes g c =
    over_stopped _ _ _ _ _ _ _ _ _ _ _ c.loop-piece.invariant.put
    (next_piece (λ piece. piece.now) c.args.pieces.now c.loop-piece.piece-index _ c.loop-piece-test.true) c.from_residual.ensures.0
    c.in_err-gather.ensures.bytes.part

pub returns-clause-bytes : goal.returns-clause-bytes
returns-clause-bytes g c =
    record { whole = none_over _ _ _ _ _ _ c.loop-piece.invariant.put (no_piece (λ piece. piece.now) c.args.pieces.now c.loop-piece.piece-index (omega arith)); part = tt }

pub returns-in_err-gather-clause-stays : goal.returns-in_err-gather-clause-stays
returns-in_err-gather-clause-stays g c = keeps_stopped _ _ _ _ _ _ c.from_residual.ensures.0 c.loop-piece.invariant.kept c.in_err-gather.ensures.stays

pub returns-clause-stays : goal.returns-clause-stays
returns-clause-stays g c = keeps_all _ _ _ _ c.loop-piece.invariant.kept
