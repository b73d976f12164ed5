use Rattle.std.proofs.Common.{◌<◌, arith}
use Rattle.rl_access.proofs.Narrow.{field_window}
use Rattle.rl_access.proofs.model.bytes_of_field.Goals as goal

pub overflow_cast-result : goal.overflow_cast-result
overflow_cast-result c =
    let small : c.window.result < 256 = (field_window c.args.field.now c.window.result c.requires.some c.requires.most c.window.type_inv c.window.ensures).0 in
    omega (arith, small)

pub returns : goal.returns
returns c = (field_window c.args.field.now c.window.result c.requires.some c.requires.most c.window.type_inv c.window.ensures).1
