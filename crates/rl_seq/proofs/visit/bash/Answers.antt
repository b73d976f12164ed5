use Rattle.std.proofs.Common.{◌≤◌, arith}
use Rattle.rl_model.specs.Fields.{size_of}
use Rattle.rl_seq.proofs.Choosing.{size_most}
use Rattle.rl_seq.proofs.visit.bash.Goals as goal

pub overflow_shl-value : goal.overflow_shl-value
overflow_shl-value c =
    let few : size_of c.args.model.now.chip c.args.reg ≤ 8 = size_most c.args.model.now.chip c.args.reg c.mirror.ensures.sound.chip c.requires.reg in
    let bit = c.requires.bit in
    omega (arith, few, bit)
