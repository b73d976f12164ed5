use Rattle.rl_report.proofs.GatherLemmas.{text_cut, text_written}
use Rattle.rl_report.proofs.pieces.put_pieces.Goals as goal

pub returns-in_err-gather_pieces : goal.returns-in_err-gather_pieces
returns-in_err-gather_pieces g c = let e = c.in_err-gather_pieces.ensures in text_cut _ _ _ _ _ _ _ c.new-text.ensures c.from_residual.ensures.0 e.bytes.part e.stays

pub returns : goal.returns
returns g c = let e = c.in_ok-gather_pieces.ensures in text_written _ _ _ _ _ _ _ _ _ c.new-text.ensures e.bytes.whole e.stays (rw (c.as_bytes.ensures) at c.put_all.ensures)
