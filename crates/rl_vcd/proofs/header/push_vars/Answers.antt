use Rattle.rl_vcd.proofs.TextLemmas.{last, more}
use Rattle.rl_vcd.proofs.header.push_vars.Goals as goal

pub returns : goal.returns
returns c =
    more _ _ _ _ _ c.in_ok-push_var.ensures
    (more _ _ _ _ _ c.in_ok-push_var-2.ensures
    (more _ _ _ _ _ c.in_ok-push_var-3.ensures
    (more _ _ _ _ _ c.in_ok-push_var-4.ensures
    (more _ _ _ _ _ c.in_ok-push_var-5.ensures
    (more _ _ _ _ _ c.in_ok-push_var-6.ensures
    (more _ _ _ _ _ c.in_ok-push_var-7.ensures
    (more _ _ _ _ _ c.in_ok-push_var-8.ensures
    (last _ _ _ c.in_ok-push_var-9.ensures))))))))
