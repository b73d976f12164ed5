use Rattle.std.proofs.Common.{◌≡◌, ◌≤◌, length, take, length-take-le, arith, ◌∙◌, refl}
use Rattle.std.proofs.lemmas.List.{get_or-take}
use Rattle.std.proofs.lemmas.List.FromFn.{fill_by_all}
use Rattle.rl_map.specs.declared.seat.Seat.{Seat}
use Rattle.rl_map.specs.Seat.{seat_of}
use Rattle.rl_map.specs.Words.{seats_of}
use Rattle.rl_map.proofs.seat.Location.words.Goals as goal

pub returns : goal.returns
returns c =
    let item = c.args.self.now in
    let none : Seat = record { order = 0; address = 0; lane = 0 } in
    let n = item.bytes in
    let within : n ≤ length c.loop-byte.seats = omega (arith, c.loop-byte.invariant.long) in
    let seats : take n c.loop-byte.seats ≡ seats_of c.args.path.now c.args.base item =
    fill_by_all (seat_of c.args.path.now c.args.base item) (take n c.loop-byte.seats) n none
    (length-take-le _ _ within)
    (λ k h. get_or-take n _ k none h ∙ c.loop-byte.invariant.done k none (omega arith)) in
    c.collect.ensures ∙ (rw (seats, c.slots.ensures) refl)
