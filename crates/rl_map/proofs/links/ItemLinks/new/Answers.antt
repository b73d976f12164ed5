use Rattle.rl_map.proofs.Linking.{none_linked}
use Rattle.rl_map.proofs.links.ItemLinks.new.Goals as goal

pub returns : goal.returns
returns c = none_linked _ _ c.new.ensures.items c.new-2.ensures.items
