use Rattle.std.proofs.Common.{subst}
use Rattle.rl_map.specs.Layout.{IsSound}
use Rattle.rl_map.proofs.layout.Layout.places.Goals as goal

pub returns-clause-sound : goal.returns-clause-sound
returns-clause-sound c = subst IsSound c.self.view_is c.self.invariant.0
