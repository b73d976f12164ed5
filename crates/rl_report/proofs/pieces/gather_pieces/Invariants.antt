-- The pieces that are left complete the text.
use Rattle.std.proofs.Common.{drop, map}
use Rattle.rl_report.specs.Pieces.{joined}
use Rattle.rl_report.proofs.GatherLemmas.{IsLeftOver}
use Rattle.rl_report.proofs.PieceLemmas.{SinkKeeps}
use Rattle.rl_report.proofs.pieces.gather_pieces.Given as goal

abbrev pub invariant-loop-piece : goal.invariant-loop-piece
invariant-loop-piece g l =
    let written = g.K.Sink.written in
    record {
      put : IsLeftOver (written l.initial.sink) (written l.sink) l.initial.text l.text (joined (map (λ piece. piece.now) l.pieces))
          (joined (map (λ piece. piece.now) (drop l.piece-index l.pieces)));
      kept : SinkKeeps g.K.Sink l.initial.sink l.sink;
    }
