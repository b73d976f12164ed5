use Rattle.rl_grade.proofs.Parts.{in_one, places_add_up, share_is_by_number, whole_has_all}
use Rattle.rl_grade.proofs.law.shares_have_each_flaw_once.Goals as goal

pub returns-clause-whole : goal.returns-clause-whole
returns-clause-whole c = whole_has_all

pub returns-clause-one : goal.returns-clause-one
returns-clause-one c = in_one

pub returns-clause-by_number : goal.returns-clause-by_number
returns-clause-by_number c = share_is_by_number

pub returns-clause-places : goal.returns-clause-places
returns-clause-places c = places_add_up
