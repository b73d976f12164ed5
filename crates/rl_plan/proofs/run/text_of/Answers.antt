use Rattle.std.proofs.Common.{[], ap, ◌∙◌}
use Rattle.rl_plan.specs.Text.{plan_text}
use Rattle.rl_plan.proofs.run.text_of.Goals as goal

pub returns-in-Ok-plan_text : goal.returns-in-Ok-plan_text
returns-in-Ok-plan_text c =
    c.in-Ok-plan_text.ensures ∙ ap (λ m. plan_text m c.args.asked) (c.in-Ok.ensures.first [])
