-- What is gone from `rest` was appended, and no count fell.
use Rattle.std.proofs.Common.{◌≡◌, ℕ, List, ◌++◌, length}
use Rattle.std.specs.Io.KnownBytes.{Appends}
use Rattle.rl_report.proofs.PieceLemmas.{SinkKeeps}
use Rattle.rl_report.proofs.pieces.put_all.Given as goal

abbrev pub invariant-loop-rest : goal.invariant-loop-rest
invariant-loop-rest g l =
    let written = g.K.Sink.written in
    record {
      put : (done : List ℕ) × (done ++ l.rest ≡ l.piece) × Appends (written l.initial.sink) (written l.sink) done;
      kept : SinkKeeps g.K.Sink l.initial.sink l.sink;
    }

abbrev pub decreases-loop-rest : goal.decreases-loop-rest
decreases-loop-rest g l = length l.rest
