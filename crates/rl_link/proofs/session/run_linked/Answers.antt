use Rattle.rl_session_run.proofs.ScriptLemmas.{unsent_then}
use Rattle.rl_link.proofs.RequestLemmas.{runs_linked}
use Rattle.rl_link.proofs.session.run_linked.Goals as goal

pub returns-clause-unsent : goal.returns-clause-unsent
returns-clause-unsent g c = unsent_then _ _ _ _ c.closed.ensures.none c.run_on-ran.ensures.unmade

pub returns-clause-does : goal.returns-clause-does
returns-clause-does g c =
    runs_linked g.S.Source.left g.K.Sink.written c.args.streams _ _ _ _ _ _ _ _ _ c.run_on-ran.ensures.does c.closed.ensures.closed
