-- The pieces from the next one on are left.
use Rattle.std.proofs.Common.{◌≡◌, ◌++◌, drop, map}
use Rattle.rl_report.specs.Pieces.{joined}
use Rattle.rl_session.proofs.pieces.push_pieces.Given as goal

abbrev pub invariant-loop-piece : goal.invariant-loop-piece
invariant-loop-piece l =
    l.text.items ++ joined (map (λ piece. piece.now) (drop l.piece-index l.pieces)) ≡ l.initial.text.items ++ joined
    (map (λ piece. piece.now) l.pieces)
