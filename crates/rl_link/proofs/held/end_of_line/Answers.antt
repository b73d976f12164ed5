use Rattle.rl_link.proofs.ComingLemmas.{end_some, end_none}
use Rattle.rl_link.proofs.held.end_of_line.Goals as goal

pub returns-clause-some : goal.returns-clause-some
returns-clause-some c = end_some _ _ c.memchr.ensures

pub returns-clause-none : goal.returns-clause-none
returns-clause-none c = end_none _ _ c.memchr.ensures
