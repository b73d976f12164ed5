use Rattle.rl_link.proofs.message.put_line_and_request.Goals as goal

pub returns : goal.returns
returns g c = rw (c.line_told.ensures, c.first_line.ensures) at c.put_pieces.ensures
