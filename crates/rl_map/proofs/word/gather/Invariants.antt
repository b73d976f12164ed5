use Rattle.rl_map.specs.Words.{byte_at}
use Rattle.rl_map.proofs.Gathered.{Gathered}
use Rattle.rl_map.proofs.word.gather.Given as goal

abbrev pub invariant-loop-lane : goal.invariant-loop-lane
invariant-loop-lane l = Gathered (λ lane. byte_at l.seats l.order lane) l.lane l.lanes l.bytes
