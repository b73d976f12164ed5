use Rattle.std.proofs.Common.{◌+◌, ◌∙◌, drop, sym, ap, rules}
use Rattle.toml.specs.Data.{Items, item}
use Rattle.toml.specs.View.{view, items_view}
use Rattle.toml.specs.declared.value.Value.{Value}
use Rattle.toml.proofs.Views.{items_view-drop}
use Rattle.rl_desc.specs.Shapes.{word, excluded}
use Rattle.rl_desc.specs.Words.{exclusion_named}
use Rattle.rl_desc.proofs.ValueLemmas.{ok_from_value, excluded-more}
use Rattle.rl_desc.proofs.value.excluded.Goals as goal

pub loop-item-preserved : goal.loop-item-preserved
loop-item-preserved c =
    let k = c.args.at.key in
    let vs = c.args.items.now in
    let i = c.loop-item.item-index in
    let rest = items_view (drop (i + 1) vs) in
    let d = view c.item-item.result in
    let next = items_view-drop vs i c.item-item.result c.loop-item-test.true ∙ ap (λ (x : Value). item (view x) rest) (sym c.item-item.is) in
    let read = ok_from_value (word exclusion_named k d) c.in_ok-exclusion.field-0.0 (sym c.in_ok-exclusion.ensures.1) in
    excluded-more k c.loop-item.all c.in_ok-exclusion.field-0.0 c.union-all.result d rest read (c.union-all.ensures (search rules))
    ∙ (ap (λ (ds : Items). excluded k c.loop-item.all ds) (sym next) ∙ c.loop-item.invariant)
