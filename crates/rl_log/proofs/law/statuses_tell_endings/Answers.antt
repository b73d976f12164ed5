use Rattle.rl_log.proofs.ScriptLemmas.{passes_where_clean, codes_tell}
use Rattle.rl_log.proofs.law.statuses_tell_endings.Goals as goal

pub returns-clause-passed : goal.returns-clause-passed
returns-clause-passed c = passes_where_clean

pub returns-clause-codes : goal.returns-clause-codes
returns-clause-codes c = codes_tell
