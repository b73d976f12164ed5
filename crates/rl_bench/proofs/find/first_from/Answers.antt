use Rattle.rl_bench.proofs.find.first_from.Goals as goal

pub returns-then-is_first-clause-before : goal.returns-then-is_first-clause-before
returns-then-is_first-clause-before c = c.is_first.ensures.before c.if-is_first.true

pub returns-then-is_first-clause-behind : goal.returns-then-is_first-clause-behind
returns-then-is_first-clause-behind c = c.is_first.ensures.behind c.if-is_first.true

pub returns-in-Some-clause-before : goal.returns-in-Some-clause-before
returns-in-Some-clause-before c = c.in-Some.ensures.before

pub returns-in-Some-clause-behind : goal.returns-in-Some-clause-behind
returns-in-Some-clause-behind c = c.in-Some.ensures.behind

pub returns-in-None-clause-before : goal.returns-in-None-clause-before
returns-in-None-clause-before c = c.search.ensures.before

pub returns-in-None-clause-behind : goal.returns-in-None-clause-behind
returns-in-None-clause-behind c = c.search.ensures.behind
