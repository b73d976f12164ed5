use Rattle.std.proofs.Common.{◌≡◌, ◌∙◌, ◌++◌, ◌∷◌, [], None, Ok, subst, arith}
use Rattle.std.proofs.lemmas.Grind.{common_steps}
use Rattle.std.proofs.lemmas.Result.{err_from_is_err_and}
use Rattle.rl_model.specs.Rules.{first_of, path_of, row_checks, path_checks, Fails}
use Rattle.rl_model.proofs.Checks.{first_of_all, failed, fails_first, passed_on}
use Rattle.rl_model.proofs.check.add_path.Goals as goal

pub returns-in_err-check_row-clause-exact : goal.returns-in_err-check_row-clause-exact
returns-in_err-check_row-clause-exact c =
    let a = c.args in
    let row = row_checks a.spot a.limit a.parents a.paths.now a.of.now a.name.now in
    let path = path_checks a.paths.now (path_of a.of.now a.name.now) in
    let e = c.in_err-check_row.field-0.0 in
    let p = err_from_is_err_and c.from_residual.result c.from_residual.ensures.1 in
    failed c.from_residual.result _ _ e p.0 p.1 p.2
    (fails_first e (first_of a.spot row) (first_of a.spot path) _ c.in_err-check_row.ensures.exact (first_of_all a.spot row path))

pub returns-in_err-check_path-clause-exact : goal.returns-in_err-check_path-clause-exact
returns-in_err-check_path-clause-exact c =
    let a = c.args in
    let row = row_checks a.spot a.limit a.parents a.paths.now a.of.now a.name.now in
    let path = path_checks a.paths.now (path_of a.of.now a.name.now) in
    let e = c.in_err-check_path.field-0.0 in
    let at : c.deref.result.now ≡ path_of a.of.now a.name.now = c.deref.ensures.value ∙ c.in_ok-path.ensures in
    let fails : Fails e (first_of a.spot path) = subst (λ p. Fails e (first_of a.spot (path_checks a.paths.now p))) at c.in_err-check_path.ensures.exact in
    let p = err_from_is_err_and c.from_residual-in_err-check_path.result c.from_residual-in_err-check_path.ensures.1 in
    passed_on c.from_residual-in_err-check_path.result _ (first_of a.spot row) (first_of a.spot path) _ c.in_ok-check_row.ensures.exact.0
    (failed c.from_residual-in_err-check_path.result _ _ e p.0 p.1 p.2 fails) (first_of_all a.spot row path)

pub returns-clause-exact : goal.returns-clause-exact
returns-clause-exact c =
    let a = c.args in
    let row = row_checks a.spot a.limit a.parents a.paths.now a.of.now a.name.now in
    let path = path_checks a.paths.now (path_of a.of.now a.name.now) in
    let at : c.deref.result.now ≡ path_of a.of.now a.name.now = c.deref.ensures.value ∙ c.in_ok-path.ensures in
    let none = subst (λ p. first_of a.spot (path_checks a.paths.now p) ≡ None) at c.in_ok-check_path.ensures.exact.0 in
    let added : c.add.new.self ≡ a.paths.now ++ path_of a.of.now a.name.now ∷ [] = grind (arith, common_steps) in
    passed_on (Ok (tt {0})) (λ _. c.add.new.self ≡ a.paths.now ++ path_of a.of.now a.name.now ∷ []) (first_of a.spot row) (first_of a.spot path) _
    c.in_ok-check_row.ensures.exact.0 (none, added) (first_of_all a.spot row path)

pub returns-clause-row : goal.returns-clause-row
returns-clause-row c = c.in_ok-check_row.ensures.row
