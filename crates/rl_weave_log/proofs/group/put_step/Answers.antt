use Rattle.rl_report.proofs.PieceLemmas.{text_after, text_stopped}
use Rattle.rl_weave_log.proofs.group.put_step.Goals as goal

pub returns-in_err-write_item : goal.returns-in_err-write_item
returns-in_err-write_item g c = text_stopped _ _ _ _ _ _ _ c.from_residual.ensures.0 c.in_err-write_item.ensures

pub returns-then-sent : goal.returns-then-sent
returns-then-sent g c = rw c.if-sent.true (text_after _ _ _ _ _ _ _ _ c.in_ok-write_item.ensures c.write_event_line.ensures)
