use Rattle.rl_report.proofs.window.read_behind.Goals as goal

pub returns-clause-cause : goal.returns-clause-cause
returns-clause-cause g c = c.read.ensures.cause
