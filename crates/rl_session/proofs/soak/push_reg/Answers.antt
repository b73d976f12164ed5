use Rattle.rl_session.proofs.soak.push_reg.Goals as goal

pub returns : goal.returns
returns c =
    rw (c.as_bytes.ensures.value, c.format.ensures.text, c.as_bytes-2.ensures.value, c.name.ensures, c.policy_of.ensures) at c.push_pieces.ensures
