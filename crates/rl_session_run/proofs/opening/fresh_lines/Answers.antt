use Rattle.rl_session_run.proofs.OpeningLemmas.{fresh_inputs}
use Rattle.rl_session_run.proofs.opening.fresh_lines.Goals as goal

pub returns : goal.returns
returns c = fresh_inputs _ c.build.ensures
