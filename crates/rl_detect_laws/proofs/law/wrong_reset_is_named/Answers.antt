use Rattle.rl_detect_laws.proofs.HwReset.{wrong_reset_is_named}
use Rattle.rl_detect_laws.proofs.NewOnes.{new_one_has_wrong_resets}
use Rattle.rl_detect_laws.proofs.law.wrong_reset_is_named.Goals as goal

pub returns : goal.returns
returns c = record { named = wrong_reset_is_named; first = new_one_has_wrong_resets }
