use Rattle.rl_plain.proofs.EachCall.{each_call_keeps_agreement}
use Rattle.rl_plain.proofs.law.each_call_keeps_agreement.Goals as goal

pub returns : goal.returns
returns c = each_call_keeps_agreement
