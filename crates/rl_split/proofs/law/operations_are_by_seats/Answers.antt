use Rattle.rl_split.proofs.BySeats.{operations_are_by_seats}
use Rattle.rl_split.proofs.law.operations_are_by_seats.Goals as goal

pub returns : goal.returns
returns c = operations_are_by_seats
