use Rattle.rl_map.proofs.Linking.{is_placed_by}
use Rattle.rl_map.proofs.checks.is_placed.Goals as goal

pub returns : goal.returns
returns c = is_placed_by c.args.places.now c.args.row.now c.place_of.result c.is_some.result c.place_of.ensures c.is_some.ensures
