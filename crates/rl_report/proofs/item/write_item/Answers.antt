use Rattle.rl_report.proofs.GatherLemmas.{text_cut, text_written}
use Rattle.rl_report.proofs.item.write_item.Goals as goal

pub returns-in_err-put_item : goal.returns-in_err-put_item
returns-in_err-put_item g c = let e = c.in_err-put_item.ensures in text_cut _ _ _ _ _ _ _ c.new-text.ensures c.from_residual.ensures.0 e.bytes.part e.stays

pub returns : goal.returns
returns g c = let e = c.in_ok-put_item.ensures in text_written _ _ _ _ _ _ _ _ _ c.new-text.ensures e.bytes.whole e.stays (rw (c.as_bytes.ensures) at c.put_all.ensures)
