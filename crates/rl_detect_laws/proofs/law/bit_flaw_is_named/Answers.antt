use Rattle.rl_detect_laws.proofs.BitFlaw.{bit_flaw_is_named}
use Rattle.rl_detect_laws.proofs.BitTables.{new_one_has_flaw}
use Rattle.rl_detect_laws.proofs.law.bit_flaw_is_named.Goals as goal

pub returns : goal.returns
returns c = record { named = bit_flaw_is_named; first = new_one_has_flaw }
