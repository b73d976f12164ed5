use Rattle.std.proofs.Common.{All, filter, refl, ap, subst, ◌∙◌}
use Rattle.rl_desc.specs.Data.{DescData}
use Rattle.rl_model.specs.Chip.{HasItem}
use Rattle.rl_plan.specs.Needed.{is_needed}
use Rattle.rl_plan.specs.Text.{items_of}
use Rattle.rl_plan.proofs.EnoughLemmas.{chosen, few_there, one_there}
use Rattle.rl_plan.proofs.enough.added_items.Goals as goal

pub miss-requires-clause-can_try : goal.miss-requires-clause-can_try
miss-requires-clause-can_try c = rw (c.in_ok-desc.ensures.desc, c.in_ok-desc.ensures.script) c.requires.can_try

pub miss-requires-clause-few : goal.miss-requires-clause-few
miss-requires-clause-few c =
    let there = subst (λ (d : DescData). All (HasItem d.chip) c.in_ok-all.all.items) c.desc.view_is c.in_ok-all.ensures.each in
    rw c.deref-2.ensures.value
    (few_there c.args.desc _ c.args.asked c.args.script.items _ c.in_ok-all.all.items c.in_ok-desc.ensures.desc there
    (c.in_ok-desc.ensures.items ∙ ap (filter (is_needed c.args.desc c.args.asked c.args.script.items)) c.deref.ensures.value))

pub returns-clause-items : goal.returns-clause-items
returns-clause-items c =
    let each = c.in_ok-all.ensures.items ∙ ap (λ (d : DescData). items_of d.chip) c.desc.view_is in
    let needs = c.in_ok-desc.ensures.items
    ∙ ap (filter (is_needed c.args.desc c.args.asked c.args.script.items)) (c.deref.ensures.value ∙ each) in
    let is = rw (c.in_ok-desc.ensures.desc, c.in_ok-desc.ensures.script, c.deref-2.ensures.value) at c.in_ok-desc-2.ensures.missed in
    c.all_or_few-items.ensures ∙ chosen c.args.desc c.args.asked c.args.script.items _ _ _ each needs is

pub returns-clause-each : goal.returns-clause-each
returns-clause-each c =
    let there = subst (λ (d : DescData). All (HasItem d.chip) c.in_ok-all.all.items) c.desc.view_is c.in_ok-all.ensures.each in
    let needs = c.in_ok-desc.ensures.items ∙ ap (filter (is_needed c.args.desc c.args.asked c.args.script.items)) c.deref.ensures.value in
    rw c.all_or_few-items.ensures
    (one_there (HasItem c.args.desc.chip) _ _ _ there (few_there c.args.desc c.args.desc c.args.asked c.args.script.items _ _ refl there needs))
