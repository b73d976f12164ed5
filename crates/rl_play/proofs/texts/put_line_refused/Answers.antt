use Rattle.rl_play.proofs.texts.put_line_refused.Goals as goal

pub returns : goal.returns
returns g c = rw (c.reason.ensures) at c.put_refused_so.ensures
