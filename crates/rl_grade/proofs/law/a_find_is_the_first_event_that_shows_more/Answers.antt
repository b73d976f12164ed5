use Rattle.rl_grade.proofs.First.{find_is_first}
use Rattle.rl_grade.proofs.law.a_find_is_the_first_event_that_shows_more.Goals as goal

pub returns : goal.returns
returns c = find_is_first
