use Rattle.std.proofs.lemmas.Result.{err_from_is_err_and}
use Rattle.rl_model.specs.Rules.{first_of, name_checks, bit_checks}
use Rattle.rl_model.proofs.Checks.{first_of_all, failed, fails_first, passed_on}
use Rattle.rl_model.proofs.check.check_field.Goals as goal

pub returns-in_err-check_names-clause-exact : goal.returns-in_err-check_names-clause-exact
returns-in_err-check_names-clause-exact c =
    let a = c.args in
    let names = name_checks a.earlier.now a.field.now in
    let bits = bit_checks a.bytes a.earlier.now a.field.now in
    let e = c.in_err-check_names.field-0.0 in
    let p = err_from_is_err_and c.from_residual.result c.from_residual.ensures.1 in
    failed c.from_residual.result _ _ e p.0 p.1 p.2
    (fails_first e (first_of a.spot names) (first_of a.spot bits) _ c.in_err-check_names.ensures (first_of_all a.spot names bits))

pub returns-clause-exact : goal.returns-clause-exact
returns-clause-exact c =
    let a = c.args in
    let names = name_checks a.earlier.now a.field.now in
    let bits = bit_checks a.bytes a.earlier.now a.field.now in
    passed_on c.check_bits.result _ (first_of a.spot names) (first_of a.spot bits) _ c.in_ok-check_names.ensures.0 c.check_bits.ensures.exact (first_of_all a.spot names bits)
