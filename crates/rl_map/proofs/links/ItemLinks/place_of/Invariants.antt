use Rattle.rl_map.proofs.Linking.{IsFoundFrom}
use Rattle.rl_map.proofs.links.ItemLinks.place_of.Given as goal

abbrev pub invariant-loop-above : goal.invariant-loop-above
invariant-loop-above l = IsFoundFrom l.places l.fn.item l.map l.above l.found

abbrev pub decreases-loop-above : goal.decreases-loop-above
decreases-loop-above l = l.above
