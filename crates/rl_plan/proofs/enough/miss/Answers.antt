use Rattle.rl_plan.proofs.EnoughLemmas.{missed}
use Rattle.rl_plan.proofs.enough.miss.Goals as goal

pub try_behind-requires-2-clause-can_try : goal.try_behind-requires-2-clause-can_try
try_behind-requires-2-clause-can_try c = rw (c.in_ok-by_few.ensures.desc, c.in_ok-by_few.ensures.script) c.requires.can_try

pub returns-clause-missed : goal.returns-clause-missed
returns-clause-missed c =
    missed c.args.desc c.args.asked c.args.script.now.items c.args.few.now c.args.all.now _ _ _ c.requires.each c.in_ok-by_few.ensures.graded
    (rw (c.in_ok-by_few.ensures.desc, c.in_ok-by_few.ensures.script) at c.in_ok-by_all.ensures.graded)
    (rw (c.deref.ensures.value, c.deref-2.ensures.value) at c.is_one_lost-holds.ensures)
