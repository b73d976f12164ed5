use Rattle.rl_session.proofs.RefusalLemmas.{field_is}
use Rattle.rl_session.proofs.refusals.put_field.Goals as goal

pub returns : goal.returns
returns g c =
    rw c.in-Some.is (rw (c.as_bytes.ensures.value, c.format.ensures.text, c.from.ensures, field_is) at c.put_pieces.ensures)
