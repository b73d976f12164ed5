use Rattle.rl_script.proofs.ShortLemmas.{is_short}
use Rattle.rl_script.proofs.law.spelling_is_short.Goals as goal

pub returns : goal.returns
returns c = is_short
