use Rattle.std.proofs.Common.{◌≡◌, ℕ, ◌≤◌, subst, List, ◌++◌, length, map, None, refl, sym, ap, ◌∙◌, arith}
use Rattle.std.proofs.lemmas.List.{length-map}
use Rattle.std.proofs.lemmas.Result.{err_from_is_err_and}
use Rattle.rl_model.specs.Data.{PartsData}
use Rattle.rl_model.specs.Rules.{or_else, scope_path, reg_path, mem_path, all_scopes_fault, regs_fault, mems_fault, all_kinds}
use Rattle.rl_model.specs.Build.{first_kinds, mem_seen, regs_seen}
use Rattle.rl_model.specs.Stages.{all_next}
use Rattle.rl_model.proofs.BuildLemmas.{scopes_of, regs_of, mems_of, by_steps, regs_are, mems_are}
use Rattle.rl_model.proofs.Checks.{failed, fails_first, passed_on}
use Rattle.rl_model.proofs.build.add_rows.Goals as goal
use Rattle.rl_model.proofs.build.add_rows.Goals.{After-add_regs, After-add_mems}

pub returns-in_err-add_all_scopes-clause-exact : goal.returns-in_err-add_all_scopes-clause-exact
returns-in_err-add_all_scopes-clause-exact c =
    let p = c.args.parts.now in
    let e = c.in_err-add_all_scopes.field-0.0 in
    let q = err_from_is_err_and c.from_residual.result c.from_residual.ensures.1 in
    failed c.from_residual.result _ _ e q.0 q.1 q.2
    (fails_first e (all_scopes_fault p.blocks p.files) (or_else (regs_of p) (mems_of p)) _ c.in_err-add_all_scopes.ensures.exact (by_steps p))

regs_read : (c : After-add_regs) → c.deref.result.now ≡ c.args.parts.now.regs
regs_read c = c.deref.ensures.value ∙ ap (λ (d : PartsData). d.regs) c.parts.view_is

regs_same : (c : After-add_regs) → regs_of c.args.parts.now ≡ regs_fault 0 c.len-scopes.result c.add_all_scopes.new.paths c.add_known_kinds.new.kinds c.deref.result.now
regs_same c = regs_are c.args.parts.now _ _ _ _ c.len-scopes.ensures.len c.in_ok-add_all_scopes.ensures.exact.1 c.in_ok-add_known_kinds.ensures
    (regs_read c)

pub returns-in_err-regs-clause-exact : goal.returns-in_err-regs-clause-exact
returns-in_err-regs-clause-exact c =
    let p = c.args.parts.now in
    let e = c.in_err-regs.field-0.0 in
    let r = c.from_residual-in_err-regs.result in
    let q = err_from_is_err_and r c.from_residual-in_err-regs.ensures.1 in
    let same = regs_same (goal.at.returns-in_err-regs-clause-exact c).After-add_regs in
    passed_on r _ (all_scopes_fault p.blocks p.files) (or_else (regs_of p) (mems_of p)) _ c.in_ok-add_all_scopes.ensures.exact.0
    (failed r _ _ e q.0 q.1 q.2 (fails_first e (regs_of p) (mems_of p) _ (λ other. same ∙ c.in_err-regs.ensures.exact other) refl)) (by_steps p)

mems_read : (c : After-add_mems) → c.deref-2.result.now ≡ c.args.parts.now.mems
mems_read c = c.deref-2.ensures.value ∙ ap (λ (d : PartsData). d.mems) c.parts.view_is

paths_made : (c : After-add_mems) → c.deref.result.now ≡ c.args.parts.now.regs → c.add_regs.new.paths ≡ scopes_of c.args.parts.now ++ map reg_path c.args.parts.now.regs
paths_made c regs =
    c.in_ok-regs.ensures.exact.1.2 ∙ ap (λ rs. c.add_all_scopes.new.paths ++ map reg_path rs) regs
    ∙ ap (λ (ps : List (List ℕ)). ps ++ map reg_path c.args.parts.now.regs) c.in_ok-add_all_scopes.ensures.exact.1

mems_same : (c : After-add_mems) → c.deref.result.now ≡ c.args.parts.now.regs → mems_of c.args.parts.now ≡ mems_fault 0 c.len.result c.add_regs.new.paths 0 c.deref-2.result.now
mems_same c regs =
    let p : PartsData = c.args.parts.now in
    let blocks : c.len.result ≡ length p.blocks = omega (arith, c.len.ensures, c.parts.inside.blocks.ok, ap (λ (d : PartsData). length d.blocks) c.parts.view_is) in
    mems_are p _ _ _ (blocks ∙ sym (length-map p.blocks scope_path)) (paths_made c regs) (mems_read c)

pub returns-in_err-mems-clause-exact : goal.returns-in_err-mems-clause-exact
returns-in_err-mems-clause-exact c =
    let p = c.args.parts.now in
    let e = c.in_err-mems.field-0.0 in
    let r = c.from_residual-in_err-mems.result in
    let q = err_from_is_err_and r c.from_residual-in_err-mems.ensures.1 in
    let at = goal.at.returns-in_err-mems-clause-exact c in
    passed_on r _ (all_scopes_fault p.blocks p.files) (or_else (regs_of p) (mems_of p)) _ c.in_ok-add_all_scopes.ensures.exact.0
    (passed_on r _ (regs_of p) (mems_of p) _ (regs_same at.After-add_regs ∙ c.in_ok-regs.ensures.exact.0)
    (failed r _ _ e q.0 q.1 q.2 (λ other. mems_same at.After-add_mems (regs_read at.After-add_regs) ∙ c.in_err-mems.ensures.exact other)) refl) (by_steps p)

pub returns-clause-exact : goal.returns-clause-exact
returns-clause-exact c =
    let p : PartsData = c.args.parts.now in
    let at = goal.at.returns-clause-exact c in
    let regs_none : regs_of p ≡ None = regs_same at.After-add_regs ∙ c.in_ok-regs.ensures.exact.0 in
    let mems_none : mems_of p ≡ None = mems_same at.After-add_mems (regs_read at.After-add_regs) ∙ c.in_ok-mems.ensures.exact.0 in
    let none = by_steps p ∙ ap (λ o. or_else o (or_else (regs_of p) (mems_of p))) c.in_ok-add_all_scopes.ensures.exact.0
    ∙ ap (λ o. or_else o (mems_of p)) regs_none ∙ mems_none in
    let regs = regs_read at.After-add_regs in
    let kinds = c.in_ok-add_known_kinds.ensures in
    let made = c.in_ok-regs.ensures.exact.1 in (
      none,
      (
        made.0 ∙ ap (regs_seen 0) regs,
        made.1 ∙ ap (λ ks. all_next 0 ks c.deref.result.now) kinds ∙ ap (all_next 0 first_kinds) regs,
        c.in_ok-mems.ensures.exact.1.0 ∙ ap (map mem_seen) (mems_read at.After-add_mems),
        c.in_ok-mems.ensures.exact.1.1 ∙ ap (λ ms. c.add_regs.new.paths ++ map mem_path ms) (mems_read at.After-add_mems)
            ∙ ap (λ (ps : List (List ℕ)). ps ++ map mem_path p.mems) (paths_made at.After-add_mems regs),
        made.3 ∙ ap (λ ks. all_kinds ks c.deref.result.now) kinds ∙ ap (all_kinds first_kinds) regs,
      ),
    )

pub returns-clause-few : goal.returns-clause-few
returns-clause-few c = c.in_ok-add_all_scopes.ensures.few

pub add_regs-requires : goal.add_regs-requires
add_regs-requires c = subst (λ (kinds : List (List ℕ)). length kinds ≤ 16) (sym c.in_ok-add_known_kinds.ensures) (omega arith)
