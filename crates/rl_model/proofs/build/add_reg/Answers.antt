use Rattle.std.proofs.Common.{length, ap, arith}
use Rattle.rl_model.specs.Data.{RegData}
use Rattle.rl_model.proofs.Checks.{width_fits}
use Rattle.rl_model.proofs.build.add_reg.Goals as goal

pub overflow_cast-result : goal.overflow_cast-result
overflow_cast-result c = omega (arith, width_fits c.part.inside.bytes c.in_ok-check_width.ensures.fits)

pub overflow_cast-result-2 : goal.overflow_cast-result-2
overflow_cast-result-2 c =
    omega (arith, c.len.ensures, c.part.inside.fields.ok, ap (λ (r : RegData). length r.fields) c.part.view_is, c.in_ok-add_fields.ensures.few_fields)

pub add_fields-requires-clause-bytes : goal.add_fields-requires-clause-bytes
add_fields-requires-clause-bytes c =
    omega (arith, ap (λ (r : RegData). r.bytes) c.part.view_is, width_fits c.part.inside.bytes c.in_ok-check_width.ensures.fits)
