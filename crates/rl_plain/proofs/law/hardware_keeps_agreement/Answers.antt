use Rattle.rl_plain.proofs.Hardware.{hardware_keeps_agreement}
use Rattle.rl_plain.proofs.law.hardware_keeps_agreement.Goals as goal

pub returns : goal.returns
returns c = hardware_keeps_agreement
