use Rattle.rl_session.proofs.refusals.put_shared.Goals as goal

pub returns : goal.returns
returns g c =
    rw (c.front.ensures, c.spell-len.ensures.digits, c.as_bytes.ensures.value, c.format.ensures.text, c.from.ensures) at
    c.put_refusal.ensures
