use Rattle.rl_report.specs.Event.{event_text}
use Rattle.rl_report.proofs.GatherLemmas.{gathered_more, gathered_last, first_cut, later_cut, text_cut, text_written}
use Rattle.rl_report.proofs.PieceLemmas.{stays_then}
use Rattle.rl_report.proofs.event.write_event.Goals as goal

pub returns-in_err-put_line : goal.returns-in_err-put_line
unfolding event_text
returns-in_err-put_line g c =
    let e = c.in_err-put_line.ensures in
    text_cut _ _ _ _ _ _ _ c.new-text.ensures c.from_residual.ensures.0 (first_cut _ _ _ _ _ e.bytes.part) e.stays

pub returns-in_err-put_items : goal.returns-in_err-put_items
unfolding event_text
returns-in_err-put_items g c =
    let line = c.in_ok-put_line.ensures in
    let e = c.in_err-put_items.ensures in
    text_cut _ _ _ _ _ _ _ c.new-text.ensures c.from_residual-in_err-put_items.ensures.0
    (later_cut _ _ _ _ _ _ _ line.bytes.whole (first_cut _ _ _ _ _ e.bytes.part)) (stays_then _ _ _ _ _ _ line.stays e.stays)

pub returns : goal.returns
unfolding event_text
returns g c =
    let line = c.in_ok-put_line.ensures in
    let items = c.in_ok-put_items.ensures in
    text_written _ _ _ _ _ _ _ _ _ c.new-text.ensures (gathered_more _ _ _ _ _ _ _ _ line.bytes.whole (gathered_last _ _ _ _ _ items.bytes.whole))
    (stays_then _ _ _ _ _ _ line.stays items.stays) (rw (c.as_bytes.ensures) at c.put_all.ensures)
