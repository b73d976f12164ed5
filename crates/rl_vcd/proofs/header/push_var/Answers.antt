use Rattle.rl_vcd.proofs.TextLemmas.{last, more}
use Rattle.rl_vcd.proofs.header.push_var.Goals as goal

pub returns : goal.returns
returns c =
    more _ _ _ _ _ c.in_ok-push.ensures
    (more _ _ _ _ _ c.in_ok-push_decimal.ensures
    (more _ _ _ _ _ c.in_ok-push-2.ensures
    (more _ _ _ _ _ c.in_ok-push_name.ensures
    (more _ _ _ _ _ c.in_ok-push-3.ensures
    (more _ _ _ _ _ c.in_ok-push-4.ensures
    (last _ _ _ c.in_ok-push-5.ensures))))))
