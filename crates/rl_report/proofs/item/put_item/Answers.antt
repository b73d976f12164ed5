use Rattle.rl_report.proofs.GatherLemmas.{gathers_more, gathers_failed, gathered_more, pushed}
use Rattle.rl_report.specs.Item.{item_line}
use Rattle.rl_report.proofs.PieceLemmas.{stays_then, stays_stopped}
use Rattle.rl_report.proofs.item.put_item.Goals as goal

pub returns-in_err-gather-clause-bytes : goal.returns-in_err-gather-clause-bytes
unfolding item_line
returns-in_err-gather-clause-bytes g c = gathers_failed _ _ _ _ _ _ _ c.from_residual.ensures.0 c.in_err-gather.ensures.bytes.part

pub returns-in_err-gather-2-clause-bytes : goal.returns-in_err-gather-2-clause-bytes
unfolding item_line
returns-in_err-gather-2-clause-bytes g c =
    gathers_more _ _ _ _ _ _ _ _ _ c.in_ok-gather.ensures.bytes.whole
    (gathers_failed _ _ _ _ _ _ _ c.from_residual-in_err-gather-2.ensures.0
    (rw (c.map_name.ensures, c.port_map.ensures.map, c.layout-layout.ensures.layout) at c.in_err-gather-2.ensures.bytes.part))

pub returns-clause-bytes : goal.returns-clause-bytes
unfolding item_line
returns-clause-bytes g c = record {
  whole = gathered_more _ _ _ _ _ _ _ _ c.in_ok-gather.ensures.bytes.whole
      (gathered_more _ _ _ _ _ _ _ _ (rw (c.map_name.ensures, c.port_map.ensures.map, c.layout-layout.ensures.layout) at c.in_ok-gather-2.ensures.bytes.whole)
      (pushed _ _ _ _ c.push_transfer.ensures));
  part = tt;
}

pub returns-in_err-gather-clause-stays : goal.returns-in_err-gather-clause-stays
returns-in_err-gather-clause-stays g c = stays_stopped _ _ _ _ _ c.from_residual.ensures.0 c.in_err-gather.ensures.stays

pub returns-in_err-gather-2-clause-stays : goal.returns-in_err-gather-2-clause-stays
returns-in_err-gather-2-clause-stays g c = stays_stopped _ _ _ _ _ c.from_residual-in_err-gather-2.ensures.0 (stays_then _ _ _ _ _ _ c.in_ok-gather.ensures.stays c.in_err-gather-2.ensures.stays)
