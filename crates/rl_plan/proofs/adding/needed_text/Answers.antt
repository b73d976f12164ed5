use Rattle.std.proofs.Common.{[], ◌∙◌}
use Rattle.rl_plan.proofs.AddingLemmas.{items_have, text_needed}
use Rattle.rl_plan.proofs.adding.needed_text.Goals as goal

pub model_of-requires : goal.model_of-requires
model_of-requires c = record { built_with = rw c.in_ok-desc.ensures.desc c.requires.can_try.built_with }

pub added_text-requires : goal.added_text-requires
added_text-requires c =
    items_have c.args.desc _ _ _ (c.in_ok-model.ensures.first []) c.in_ok-desc.ensures.desc (rw c.deref.ensures.value c.in_ok-desc.ensures.each)

pub returns : goal.returns
returns c =
    text_needed _ _ c.args.desc _ _ c.args.asked c.args.script.items _ (c.in_ok-model.ensures.first []) c.in_ok-desc.ensures.desc
    (c.deref.ensures.value ∙ c.in_ok-desc.ensures.items) c.added_text.ensures
