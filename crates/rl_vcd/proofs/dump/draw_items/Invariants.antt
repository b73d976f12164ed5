-- The items from the next one on are left.
use Rattle.std.proofs.Common.{◌≡◌, ◌++◌, take, drop}
use Rattle.rl_vcd.specs.Items.{items_text, cycle_after}
use Rattle.rl_vcd.proofs.dump.draw_items.Given as goal

abbrev pub invariant-loop-k : goal.invariant-loop-k
invariant-loop-k l = record {
  drawn : l.initial.wave.text.items ++ items_text l.layout l.label l.event.trace l.initial.wave.cycle
      ≡ l.wave.text.items ++ items_text l.layout l.label (drop l.k l.event.trace) l.wave.cycle;
  reached : l.wave.cycle ≡ cycle_after l.layout (take l.k l.event.trace) l.initial.wave.cycle;
  cycle : cycle_after l.layout l.event.trace l.initial.wave.cycle ≡ cycle_after l.layout (drop l.k l.event.trace) l.wave.cycle;
}
