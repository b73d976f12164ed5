use Rattle.std.proofs.Common.{◌+◌, set, length, get_or, refl, ap, ◌∙◌, arith}
use Rattle.rl_map.proofs.Lookups.{read_is}
use Rattle.rl_map.proofs.Linking.{linked_more}
use Rattle.rl_map.proofs.links.ItemLinks.push.Goals as goal

pub returns : goal.returns
returns c =
    let number = c.number_of_item-number in
    let grown = c.grow.new.numbers.items in
    let value = length c.args.places.now + 1 in
    linked_more c.args.places.now c.args.row.now c.args.self.now.lasts.items grown (set grown number.result value) c.args.self.now.before.items c.push.new.self.items c.index.result.now value
    c.requires.linked c.in_ok-grow.ensures.kept (omega (arith, c.in_ok-grow.ensures.long, number.ensures.number))
    (read_is grown number.result c.index.result.now 0 (omega (arith, c.in_ok-grow.ensures.long)) c.index.ensures ∙ ap (λ n. get_or grown n 0) number.ensures.number)
    c.in_ok-push.ensures.items refl (ap (λ n. set grown n value) number.ensures.number)
