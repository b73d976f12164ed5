use Rattle.rl_log.proofs.ScriptLemmas.{entries_tell_steps, lines_are_limited}
use Rattle.rl_log.proofs.law.lines_tell_their_steps.Goals as goal

pub returns-clause-told : goal.returns-clause-told
returns-clause-told c = entries_tell_steps

pub returns-clause-limits : goal.returns-clause-limits
returns-clause-limits c = lines_are_limited
