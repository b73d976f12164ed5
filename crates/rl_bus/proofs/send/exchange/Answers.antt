use Rattle.rl_bus.proofs.Moves.{same_kinds}
use Rattle.rl_bus.proofs.send.exchange.Goals as goal

pub returns-clause-kinds : goal.returns-clause-kinds
returns-clause-kinds g c = same_kinds _ _ _ _ _ _ _ c.requires.in_range c.index_mut.ensures.value c.through.ensures.adapter
