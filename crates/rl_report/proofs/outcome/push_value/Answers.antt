use Rattle.rl_report.proofs.GatherLemmas.{pushed_two}
use Rattle.rl_report.proofs.outcome.push_value.Goals as goal

pub returns-clause-text : goal.returns-clause-text
returns-clause-text c = pushed_two _ _ _ _ _ c.push.ensures.text c.push_padded.ensures.text
