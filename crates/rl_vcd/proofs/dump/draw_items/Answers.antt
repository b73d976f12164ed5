use Rattle.std.proofs.Common.{◌++◌, arith}
use Rattle.rl_vcd.specs.Items.{items_text, cycle_after}
use Rattle.std.proofs.lemmas.Result.{err_from_is_err_and}
use Rattle.rl_vcd.proofs.DumpLemmas.{next_drawn, next_cycle, next_reached, runs_out, all_drawn, all_cycles}
use Rattle.rl_vcd.proofs.dump.draw_items.Goals as goal

pub loop-k-preserved : goal.loop-k-preserved
loop-k-preserved c =
    let l = c.args.layout.now in
    let xs = c.args.event.now.trace in
    let old = c.args.wave.now in
    let at = c.loop-k.wave in
    let new = c.draw_item.new.wave in
    let i = c.loop-k.invariant in
    let e = c.in_ok-draw_item.ensures in
    record {
      drawn = next_drawn l c.args.label.now (old.text.items ++ items_text l c.args.label.now xs old.cycle) at.text.items new.text.items xs c.loop-k.k at.cycle new.cycle
          c.item.result c.item.ensures i.drawn e.drawn e.cycle;
      reached = next_reached l old.cycle xs c.loop-k.k at.cycle new.cycle c.item.result c.item.ensures i.reached e.cycle;
      cycle = next_cycle l (cycle_after l xs old.cycle) xs c.loop-k.k at.cycle new.cycle c.item.result c.item.ensures i.cycle e.cycle;
    }

pub returns-clause-drawn : goal.returns-clause-drawn
returns-clause-drawn c =
    all_drawn c.args.layout.now c.args.label.now _ _ c.args.event.now.trace c.loop-k.k c.loop-k.wave.cycle (omega (arith, c.len-k-end.ensures.len))
    c.loop-k.invariant.drawn

pub returns-clause-cycle : goal.returns-clause-cycle
returns-clause-cycle c =
    let l = c.args.layout.now in
    let xs = c.args.event.now.trace in
    all_cycles l (cycle_after l xs c.args.wave.now.cycle) xs c.loop-k.k c.loop-k.wave.cycle (omega (arith, c.len-k-end.ensures.len)) c.loop-k.invariant.cycle

pub returns-in_err-draw_item-clause-full : goal.returns-in_err-draw_item-clause-full
returns-in_err-draw_item-clause-full c =
    let failed = err_from_is_err_and c.from_residual.result c.from_residual.ensures.1 in
    λ is. runs_out c.args.layout.now c.args.wave.now.cycle c.args.event.now.trace c.loop-k.k c.loop-k.wave.cycle c.item.result c.item.ensures
    c.loop-k.invariant.reached (c.in_err-draw_item.ensures.full (cc))
