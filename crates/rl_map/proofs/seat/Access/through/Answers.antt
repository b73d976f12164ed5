use Rattle.std.proofs.Common.{◌+◌, ◌*◌, ◌^◌, ◌<◌, ◌≤◌, arith}
use Rattle.std.proofs.Math.Nat.{mul_comm, mul-le-mul_left}
use Rattle.rl_map.proofs.Chunks.{chunk_lt, count_le, reach_le, carried_le, order_lt}
use Rattle.rl_map.proofs.seat.Access.through.Goals as goal

pub overflow_add-start : goal.overflow_add-start
overflow_add-start c =
    omega (arith, carried_le c.args.self c.args.level.now c.requires.access c.requires.width)

pub address-requires-clause-fits : goal.address-requires-clause-fits
address-requires-clause-fits c =
    let near : c.stride.result * c.div_ceil-count.result ≤ 8 =
    rw (c.div_ceil-count.ensures, c.stride.ensures, mul_comm)
    (reach_le c.args.self c.args.level.now c.requires.access c.requires.width) in
    omega (arith, carried_le c.args.self c.args.level.now c.requires.access c.requires.width)

pub overflow_add-result : goal.overflow_add-result
overflow_add-result c =
    let low : c.args.self.order * c.div_ceil-count.result + c.place_in_time.result < 8 * 2 ^ 24 =
    rw (c.place_in_time.ensures, c.div_ceil-count.ensures)
    (order_lt c.args.self c.args.level.now (2 ^ 24) c.requires.access c.requires.width c.requires.order_fits) in
    omega arith

pub address-requires-clause-small : goal.address-requires-clause-small
address-requires-clause-small c =
    let near : c.stride.result * c.div_ceil-count.result ≤ 8 =
    rw (c.div_ceil-count.ensures, c.stride.ensures, mul_comm)
    (reach_le c.args.self c.args.level.now c.requires.access c.requires.width) in
    omega (arith, near)

pub overflow_mul-result : goal.overflow_mul-result
overflow_mul-result c =
    let few : c.div_ceil-count.result ≤ 8 = rw c.div_ceil-count.ensures (count_le c.args.self.bytes c.args.level.now.bytes c.requires.access.most c.requires.width) in
    omega (arith, mul-le-mul_left c.args.self.order few, c.requires.order_fits)

pub place_in_time-requires : goal.place_in_time-requires
place_in_time-requires c =
    rw c.div_ceil-count.ensures (chunk_lt c.args.self.bytes c.args.level.now.bytes c.args.self.byte c.requires.access.within c.requires.width)

pub address-requires-clause-in_count : goal.address-requires-clause-in_count
address-requires-clause-in_count c =
    rw c.div_ceil-count.ensures (chunk_lt c.args.self.bytes c.args.level.now.bytes c.args.self.byte c.requires.access.within c.requires.width)
