use Rattle.rl_link.proofs.message.put_unknown.Goals as goal

pub returns : goal.returns
returns g c =
    rw (c.as_bytes.ensures.value, c.format.ensures.text, c.line_told.ensures, c.first_line.ensures) at c.put_pieces.ensures
