use Rattle.std.proofs.Common.{◌*◌, length, take, ap, ◌∙◌, arith}
use Rattle.std.proofs.lemmas.List.{length-map, length-take-le}
use Rattle.rl_map.specs.Locations.{further}
use Rattle.rl_map.proofs.word.Words.further.Goals as goal

pub push-requires : goal.push-requires
push-requires c =
    let items = c.as_slice-word-items.result.now in
    let i = c.loop-word.word-index in
    let long = ap length c.loop-word.invariant ∙ length-map (take i items) (further (c.args.index * c.args.step)) in
    omega (arith, long, length-take-le i items (omega arith), c.as_slice-word-items.ensures.few)
