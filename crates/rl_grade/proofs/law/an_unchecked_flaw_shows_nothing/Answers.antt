use Rattle.rl_grade.proofs.UncheckedFinds.{shows_nothing, shows_the_same}
use Rattle.rl_grade.proofs.law.an_unchecked_flaw_shows_nothing.Goals as goal

pub returns-clause-register : goal.returns-clause-register
returns-clause-register c = shows_nothing

pub returns-clause-same : goal.returns-clause-same
returns-clause-same c = shows_the_same
