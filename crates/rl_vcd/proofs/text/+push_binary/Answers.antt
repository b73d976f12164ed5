use Rattle.std.proofs.Common.{◌-◌, arith}
use Rattle.rl_vcd.proofs.TextLemmas.{digits_more}
use Rattle.rl_vcd.proofs.text.+push_binary.Goals as goal

pub returns : goal.returns
returns t c =
    digits_more _ _ _ c.args.digits (c.args.digits - 1) c.args.value _ (omega arith) c.digit.ensures c.in_ok-push.ensures.items c.in_ok-push_binary.ensures
