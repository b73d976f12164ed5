use Rattle.std.proofs.Common.{refl}
use Rattle.rl_log.proofs.TellingLemmas.{tells_all, tells_front}
use Rattle.rl_session_run.proofs.soaking.put_line.Goals as goal

pub returns-in-Ok-clause-tells : goal.returns-in-Ok-clause-tells
returns-in-Ok-clause-tells g c = tells_all _ _ _ _ c.in-Ok.ensures.bytes.whole

pub returns-in-Err-clause-tells : goal.returns-in-Err-clause-tells
returns-in-Err-clause-tells g c = tells_front _ _ _ _ _ refl c.in-Err.ensures.bytes.part
