use Rattle.rl_weave_log.proofs.Lines.{group_finishes}
use Rattle.rl_weave_log.proofs.taking.end_script.Goals as goal

pub returns-in-Ok-clause-ends : goal.returns-in-Ok-clause-ends
returns-in-Ok-clause-ends g c =
    group_finishes _ _ _ c.args.script.now.weave _ c.args.stage.now.model.now _ _ _ _ _ _ _ _ _ _ _ _ _ c.in-Ok.ensures.writes c.end.ensures.tells
