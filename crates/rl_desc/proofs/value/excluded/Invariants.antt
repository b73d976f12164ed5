use Rattle.std.proofs.Common.{◌≡◌, drop}
use Rattle.toml.specs.View.{items_view}
use Rattle.rl_desc.specs.Shapes.{excluded}
use Rattle.rl_desc.specs.Words.{skip}
use Rattle.rl_desc.proofs.value.excluded.Given as goal

abbrev pub invariant-loop-item : goal.invariant-loop-item
invariant-loop-item l =
    excluded l.at.key l.all (items_view (drop l.item-index l.items)) ≡ excluded l.at.key (skip 0) (items_view l.items)
