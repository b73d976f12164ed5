use Rattle.std.proofs.Common.{arith, map}
use Rattle.rl_report.specs.Pieces.{joined}
use Rattle.rl_report.proofs.PieceLemmas.{next_piece, no_piece}
use Rattle.rl_session.proofs.ListingLemmas.{more_pushed, all_pushed}
use Rattle.rl_session.proofs.pieces.push_pieces.Goals as goal

pub loop-piece-preserved : goal.loop-piece-preserved
loop-piece-preserved c =
    more_pushed c.args.text.now.items _ _ (joined (map (λ piece. piece.now) c.args.pieces.now)) _ _ _ c.loop-piece.invariant
    (next_piece (λ piece. piece.now) c.args.pieces.now c.loop-piece.piece-index _ c.loop-piece-test.true)
    c.in_ok-extend_from_slice.ensures.items

pub returns : goal.returns
returns c =
    all_pushed c.args.text.now.items _ (joined (map (λ piece. piece.now) c.args.pieces.now)) _ c.loop-piece.invariant
    (no_piece (λ piece. piece.now) c.args.pieces.now c.loop-piece.piece-index (omega arith))
