use Rattle.rl_link.proofs.message.put_where.Goals as goal

pub returns : goal.returns
returns g c = rw (c.as_bytes.ensures.value, c.format.ensures.text) at c.put_pieces.ensures
