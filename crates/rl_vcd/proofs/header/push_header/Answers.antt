use Rattle.rl_vcd.specs.Dump.{header_text}
use Rattle.rl_vcd.proofs.TextLemmas.{last, more}
use Rattle.rl_vcd.proofs.header.push_header.Goals as goal

pub returns : goal.returns
unfolding header_text
returns c =
    more _ _ _ _ _ c.in_ok-push.ensures
    (more _ _ _ _ _ c.in_ok-push-2.ensures
    (more _ _ _ _ _ c.in_ok-push-3.ensures
    (more _ _ _ _ _ c.in_ok-push_scopes.ensures
    (more _ _ _ _ _ c.in_ok-push-4.ensures
    (more _ _ _ _ _ c.in_ok-push_idles.ensures
    (last _ _ _ c.in_ok-push-5.ensures))))))
