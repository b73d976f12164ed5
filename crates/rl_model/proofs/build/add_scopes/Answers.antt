use Rattle.std.proofs.Common.{◌≡◌, ◌+◌, ◌<◌, ◌≤◌, List, [], ◌∷◌, ◌++◌, length, drop, map, refl, sym, ap, ◌∙◌, arith}
use Rattle.std.proofs.lemmas.List.{at_drop_all}
use Rattle.std.proofs.lemmas.Result.{err_from_is_err_and}
use Rattle.rl_model.specs.declared.parts.ScopePart.{ScopePart}
use Rattle.rl_model.specs.Rules.{row_of, scope_path, path_fault, scopes_fault}
use Rattle.rl_model.proofs.BuildLemmas.{all_built, next_part, more_built, past}
use Rattle.rl_model.proofs.Checks.{failed, fails_first}
use Rattle.rl_model.proofs.build.add_scopes.Goals as goal

pub loop-part-preserved : goal.loop-part-preserved
loop-part-preserved c =
    let l = c.loop-part in
    let was = l.invariant in
    let part : ScopePart = c.part-item.result in
    let rest : List ScopePart = drop (l.part-index + 1) c.args.parts.now in
    let here : drop l.part-index c.args.parts.now ≡ part ∷ rest = next_part c.args.parts.now l.part-index part c.loop-part-test.true c.part-item.is in
    let exact = rw (c.row_of.ensures, c.len-parents.ensures.len) at c.in_ok-add_path.ensures.exact in
    let low : l.row < 256 = rw c.row_of.ensures at c.in_ok-add_path.ensures.row in
    let paths : c.add_path.new.paths ≡ l.paths ++ scope_path part ∷ [] = exact.1 in
    record {
      row = ap (λ n. n + 1) was.row;
      few = omega arith;
      fault =
          ap (λ ps. scopes_fault c.args.array (l.row + 1) ps rest) paths
          ∙ past (path_fault (row_of c.args.array l.row) 256 (length l.paths) l.paths part.of part.name) _ _ exact.0
          (sym (ap (scopes_fault c.args.array l.row l.paths) here) ∙ was.fault);
      paths = more_built scope_path _ _ _ part rest _ here paths was.paths;
    }

pub returns-in_err-add_path-clause-exact : goal.returns-in_err-add_path-clause-exact
returns-in_err-add_path-clause-exact c =
    let l = c.loop-part in
    let part : ScopePart = c.part-item.result in
    let rest : List ScopePart = drop (l.part-index + 1) c.args.parts.now in
    let here : drop l.part-index c.args.parts.now ≡ part ∷ rest = next_part c.args.parts.now l.part-index part c.loop-part-test.true c.part-item.is in
    let e = c.in_err-add_path.field-0.0 in
    let fails = rw (c.row_of.ensures, c.len-parents.ensures.len) at c.in_err-add_path.ensures.exact in
    let p = err_from_is_err_and c.from_residual.result c.from_residual.ensures.1 in
    failed c.from_residual.result _ _ e p.0 p.1 p.2
    (fails_first e (path_fault (row_of c.args.array l.row) 256 (length l.paths) l.paths part.of part.name)
    (scopes_fault c.args.array (l.row + 1) (l.paths ++ scope_path part ∷ []) rest) _ fails
    (sym l.invariant.fault ∙ ap (scopes_fault c.args.array l.row l.paths) here))

pub returns-clause-exact : goal.returns-clause-exact
returns-clause-exact c =
    let l = c.loop-part in
    let end : length c.args.parts.now ≤ l.part-index = omega (arith, c.loop-part-test.false) in
    (sym l.invariant.fault ∙ at_drop_all (scopes_fault c.args.array l.row l.paths) c.args.parts.now l.part-index end, all_built (map scope_path) refl _ _ _ _ end l.invariant.paths)
