use Rattle.rl_link.proofs.message.put_undone.Goals as goal

pub returns : goal.returns
returns g c = rw (c.first_line.ensures, c.line_told.ensures) at c.put_pieces.ensures
