use Rattle.rl_report.proofs.PieceLemmas.{text_more, text_last, text_failed}
use Rattle.rl_vcd.proofs.sequence.put_sequence_begin.Goals as goal

pub returns-in_err-put_sequence : goal.returns-in_err-put_sequence
returns-in_err-put_sequence g c = text_failed _ _ _ _ _ _ _ c.from_residual.ensures.0 c.in_err-put_sequence.ensures

pub returns : goal.returns
returns g c = text_more _ _ _ _ _ _ _ _ c.in_ok-put_sequence.ensures (text_last _ _ _ _ _ c.put_all.ensures)
