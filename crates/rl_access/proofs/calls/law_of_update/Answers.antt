use Rattle.rl_access.proofs.calls.law_of_update.Goals as goal

pub returns-clause-law : goal.returns-clause-law
returns-clause-law c = c.update_brings.ensures c.args.model.now.chip c.chip.ensures.sound.chip
