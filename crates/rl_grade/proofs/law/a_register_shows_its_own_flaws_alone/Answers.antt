use Rattle.rl_grade.proofs.TogetherFinds.{found_as_alone, own_flaws_alone}
use Rattle.rl_grade.proofs.law.a_register_shows_its_own_flaws_alone.Goals as goal

pub returns-clause-events : goal.returns-clause-events
returns-clause-events c = own_flaws_alone

pub returns-clause-found : goal.returns-clause-found
returns-clause-found c = found_as_alone
