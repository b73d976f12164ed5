use Rattle.rl_split.proofs.BySeats.{value_is_by_seats}
use Rattle.rl_split.proofs.law.value_is_by_seats.Goals as goal

pub returns : goal.returns
returns c = value_is_by_seats
