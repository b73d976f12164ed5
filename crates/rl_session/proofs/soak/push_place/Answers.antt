use Rattle.rl_session.proofs.soak.push_place.Goals as goal

pub returns : goal.returns
returns c =
    rw (c.map_of.ensures, c.as_bytes.ensures.value, c.format.ensures.text, c.as_bytes-2.ensures.value, c.format-2.ensures.text) at c.push_pieces.ensures
