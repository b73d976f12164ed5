use Rattle.rl_plain.proofs.Believed.{write_is_stored}
use Rattle.rl_plain.proofs.law.write_is_stored.Goals as goal

pub returns : goal.returns
returns c = write_is_stored
