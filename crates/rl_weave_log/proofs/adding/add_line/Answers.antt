use Rattle.std.proofs.Common.{◌≡◌, true, ap, ◌∙◌}
use Rattle.rl_weave.specs.Weave.{WeaveData}
use Rattle.rl_weave_log.proofs.Words.{joined_on}
use Rattle.rl_weave_log.proofs.adding.add_line.Goals as goal

pub returns-in-Ok-clause-group : goal.returns-in-Ok-clause-group
returns-in-Ok-clause-group c =
    record {
      fresh = ap (λ (w : WeaveData). w.fresh) c.in-Ok.ensures.added ∙ c.requires.group.fresh;
      on = joined_on c.args.model.now c.args.weave.now _ _ c.in-Ok.ensures.added c.requires.group.on c.in-Ok.ensures.granted;
    }
