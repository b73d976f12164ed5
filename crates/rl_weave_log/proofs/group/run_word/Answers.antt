use Rattle.std.proofs.Common.{sym, subst}
use Rattle.rl_weave.specs.Weave.{IsWeave}
use Rattle.rl_weave.proofs.Weaves.{weave_stepped}
use Rattle.rl_weave_log.proofs.Words.{chosen_is, step_writes}
use Rattle.rl_weave_log.proofs.group.run_word.Goals as goal

pub returns-clause-writes : goal.returns-clause-writes
returns-clause-writes g c =
    let drawn = c.draw-drawn.ensures in
    let w = c.args.script.now.weave in
    step_writes _ _ w _ _ _ _ _ _ _ _ _ _ _ _ _ _ _ _ drawn.state
    (chosen_is w _ _ _ _ c.nth_open-which.ensures.number drawn.drawn c.open_count.ensures.count)
    c.step_into-sent.ensures.steps c.step_into-sent.ensures.stepped c.count_end.ensures c.put_step.ensures.bytes

pub returns-clause-sound : goal.returns-clause-sound
returns-clause-sound g c =
    subst IsWeave (sym c.step_into-sent.ensures.stepped)
    (weave_stepped c.args.script.now.weave _ _ c.open_count.ensures.weave c.nth_open-which.ensures.open)
