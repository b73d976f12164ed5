use Rattle.std.proofs.Common.{ℕ, Bool, List, ◌++◌}
use Rattle.std.specs.Str.{bytes_eq}
use Rattle.rl_script.specs.declared.command.Item.{Item}
use Rattle.rl_script.specs.Commands.{item_name, register_items, other_items, field_items, backdoor_items, memory_items}
use Rattle.rl_script.proofs.CommandLemmas.{in_first, in_later}
use Rattle.rl_script.proofs.command.Item.named.Goals as goal

abbrev is_named : List ℕ → Item → Bool
is_named word item = bytes_eq (item_name item) word

-- the items behind a group
abbrev after_field : List Item
after_field = backdoor_items ++ memory_items

abbrev after_other : List Item
after_other = field_items ++ after_field

abbrev after_register : List Item
after_register = other_items ++ after_other

pub returns-in-Some : goal.returns-in-Some
returns-in-Some c = in_first (is_named c.args.word.now) register_items after_register _ _ c.register_item.ensures c.in-Some.is

pub returns-in-Some-other_item : goal.returns-in-Some-other_item
returns-in-Some-other_item c =
    let named = is_named c.args.word.now in
    in_later named register_items after_register _ _ c.register_item.ensures c.in_default.is (in_first named other_items after_other _ _ c.other_item.ensures c.in-Some-other_item.is)

pub returns-in-Some-field_item : goal.returns-in-Some-field_item
returns-in-Some-field_item c =
    let named = is_named c.args.word.now in
    in_later named register_items after_register _ _ c.register_item.ensures c.in_default.is
    (in_later named other_items after_other _ _ c.other_item.ensures c.in_default-other_item.is
    (in_first named field_items after_field _ _ c.field_item.ensures c.in-Some-field_item.is))

pub returns-in-Some-backdoor_item : goal.returns-in-Some-backdoor_item
returns-in-Some-backdoor_item c =
    let named = is_named c.args.word.now in
    in_later named register_items after_register _ _ c.register_item.ensures c.in_default.is
    (in_later named other_items after_other _ _ c.other_item.ensures c.in_default-other_item.is
    (in_later named field_items after_field _ _ c.field_item.ensures c.in_default-field_item.is
    (in_first named backdoor_items memory_items _ _ c.backdoor_item.ensures c.in-Some-backdoor_item.is)))

pub returns : goal.returns
returns c =
    let named = is_named c.args.word.now in
    in_later named register_items after_register _ _ c.register_item.ensures c.in_default.is
    (in_later named other_items after_other _ _ c.other_item.ensures c.in_default-other_item.is
    (in_later named field_items after_field _ _ c.field_item.ensures c.in_default-field_item.is
    (in_later named backdoor_items memory_items _ _ c.backdoor_item.ensures c.in_default-backdoor_item.is c.memory_item.ensures)))
