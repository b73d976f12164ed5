use Rattle.std.proofs.Common.{[], ◌∷◌, codes}
use Rattle.rl_script.specs.Commands.{sequence_name}
use Rattle.rl_report.proofs.PieceLemmas.{text_then, then_stopped}
use Rattle.rl_vcd.proofs.sequence.put_sequence.Goals as goal

pub returns-in_err-put_pieces : goal.returns-in_err-put_pieces
returns-in_err-put_pieces g c =
    then_stopped _ _ _ (codes "seq " ∷ sequence_name c.args.which ∷ codes " " ∷ []) _ _ _ c.from_residual.ensures.0
    (rw (c.name.ensures) at c.in_err-put_pieces.ensures)

pub returns : goal.returns
returns g c =
    text_then _ _ _ _ (codes "seq " ∷ sequence_name c.args.which ∷ codes " " ∷ []) _ _ _ (rw (c.name.ensures) at c.in_ok-put_pieces.ensures)
    (rw (c.over.ensures) at c.put_all.ensures)
