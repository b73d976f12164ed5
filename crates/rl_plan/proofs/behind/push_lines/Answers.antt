use Rattle.std.proofs.Common.{[], ◌∙◌}
use Rattle.rl_plan.proofs.BehindLemmas.{desc_back, tasks_are, tasks_fit, there_are}
use Rattle.rl_plan.proofs.behind.push_lines.Goals as goal

pub push_tasks-requires : goal.push_tasks-requires
push_tasks-requires c = there_are c.args.desc c.args.asked c.args.items.now _ (c.in_ok-model.ensures.first []) c.requires.items

pub returns-clause-desc : goal.returns-clause-desc
returns-clause-desc c = c.unflawed_desc.ensures.desc ∙ desc_back c.args.desc _ (c.in_ok-model.ensures.first []) c.requires.none

pub returns-clause-tasks : goal.returns-clause-tasks
returns-clause-tasks c = tasks_are c.args.desc c.args.asked c.args.items.now _ (c.in_ok-model.ensures.first []) _ _ c.in_ok-push_tasks.ensures

pub returns-clause-fits : goal.returns-clause-fits
returns-clause-fits c =
    tasks_fit c.args.desc c.args.asked c.args.items.now _ (c.in_ok-model.ensures.first []) _ _ c.in_ok-model.ensures.sound c.requires.items
    c.requires.fits c.in_ok-push_tasks.ensures
