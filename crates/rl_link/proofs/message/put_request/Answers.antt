use Rattle.rl_link.proofs.message.put_request.Goals as goal

pub returns : goal.returns
returns g c = rw c.first_line.ensures at c.put_pieces.ensures
