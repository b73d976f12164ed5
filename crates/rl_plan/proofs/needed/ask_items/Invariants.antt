-- Those of the items so far were chosen, and the script is as it was.
use Rattle.std.proofs.Common.{◌≡◌, filter, take}
use Rattle.rl_plan.specs.Needed.{is_needed}
use Rattle.rl_plan.proofs.needed.ask_items.Given as goal

abbrev pub invariant-loop-item : goal.invariant-loop-item
invariant-loop-item l = record {
  desc_is : l.desc ≡ l.fn.desc;
  script_is : l.script.items ≡ l.initial.script.items;
  chosen : l.needed.items ≡ filter (is_needed l.fn.desc l.asked l.initial.script.items) (take l.item-index l.items);
}
