use Rattle.rl_weave_laws.proofs.Waits.{bus_error_keeps_register}
use Rattle.rl_weave_laws.proofs.word_law.bus_error_keeps_register.Goals as goal

pub returns : goal.returns
returns c = bus_error_keeps_register
