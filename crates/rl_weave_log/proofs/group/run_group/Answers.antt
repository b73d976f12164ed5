use Rattle.rl_weave_log.proofs.Words.{group_done, group_fails}
use Rattle.rl_weave_log.proofs.group.run_group.Goals as goal

pub returns-clause-writes : goal.returns-clause-writes
returns-clause-writes g c =
    group_done _ _ _ _ _ _ _ _ _ _ _ _ _ _ _ _ _ _ c.clear.ensures c.in_ok-run_words.ensures.writes
