use Rattle.rl_weave_log.proofs.refusal.put_woven_refused.Goals as goal

pub returns-in-NotWoven : goal.returns-in-NotWoven
returns-in-NotWoven g c = rw c.in-NotWoven.is c.put_refused_so.ensures
