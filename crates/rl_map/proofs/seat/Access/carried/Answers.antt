use Rattle.std.proofs.Common.{◌*◌, ◌≤◌, arith}
use Rattle.std.proofs.Math.Nat.{mul-le-mul_left}
use Rattle.rl_map.proofs.Chunks.{count_le, reach_le, part_fits}
use Rattle.rl_map.proofs.seat.Access.carried.Goals as goal

pub overflow_mul-result-then-self : goal.overflow_mul-result-then-self
overflow_mul-result-then-self c =
    let near : c.from-count.result * c.from.result ≤ 8 =
    rw (c.from-count.ensures, c.div_ceil.ensures, c.from.ensures, c.stride.ensures)
    (reach_le c.args.self c.args.level.now c.requires.access c.requires.width) in
    omega (arith, mul-le-mul_left c.args.self.address near)

pub overflow_mul-result : goal.overflow_mul-result
overflow_mul-result c =
    let few : c.from-count.result ≤ 8 = rw (c.from-count.ensures, c.div_ceil.ensures) (count_le c.args.self.bytes c.args.level.now.bytes c.requires.access.most c.requires.width) in
    omega (arith, mul-le-mul_left c.args.self.address few)

pub overflow_mul-result-then-level : goal.overflow_mul-result-then-level
overflow_mul-result-then-level c =
    let few : c.from-count.result ≤ 8 = rw (c.from-count.ensures, c.div_ceil.ensures) (count_le c.args.self.bytes c.args.level.now.bytes c.requires.access.most c.requires.width) in
    record { fits = part_fits _ _ _ c.requires.address_fits few }
