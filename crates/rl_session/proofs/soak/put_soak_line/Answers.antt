use Rattle.rl_session.proofs.HexLemmas.{sixteen}
use Rattle.rl_session.proofs.soak.put_soak_line.Goals as goal

pub returns : goal.returns
returns g c =
    let digits = sixteen c.args.sum c.hex-len.result c.hex-len.new.out c.ranges.sum.fits c.hex-len.ensures.len
    c.hex-len.ensures.digits in
    rw (
      c.as_bytes.ensures.value,
      c.format.ensures.text,
      c.as_bytes-2.ensures.value,
      c.format-2.ensures.text,
      c.as_bytes-3.ensures.value,
      c.format-3.ensures.text,
      c.as_bytes-4.ensures.value,
      c.format-4.ensures.text,
      c.front.ensures,
      digits,
    ) at c.put_pieces.ensures
