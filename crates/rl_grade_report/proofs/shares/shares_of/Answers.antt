use Rattle.std.proofs.Common.{◌≡◌, ◌+◌, List, [], Result, Ok, Err, IfOk, IfErr, IfSome, sym, subst, ◌∙◌, arith}
use Rattle.rl_report.specs.Lines.{lines_of}
use Rattle.rl_grade_report.specs.declared.shares.Part.{Part}
use Rattle.rl_grade_report.specs.declared.shares.Unfit.{Unfit}
use Rattle.rl_grade_report.specs.Shares.{came, refused_by, shares_of}
use Rattle.rl_grade_report.proofs.AddLemmas.{line_on, line_refused, lines_end, out_by}
use Rattle.rl_grade_report.proofs.shares.shares_of.Goals as goal

pub loop-line-preserved : goal.loop-line-preserved
loop-line-preserved c =
    let i = c.loop-line.invariant in
    let e = c.in-Some.ensures in
    record {
      same = sym (line_on (came c.loop-line.shares) (c.loop-line.number + 1) _ _ _ e.lines (came c.in_ok-shares.shares) c.in_ok-shares.ensures.next) ∙ i.same;
      fits = omega (arith, i.fits, e.shorter);
    }

pub returns-in_err-shares-clause-refused : goal.returns-in_err-shares-clause-refused
returns-in_err-shares-clause-refused c =
    let all = shares_of c.args.text.now in
    out_by c.from_residual.result c.in_err-shares.field-0.0 (λ fault. IfSome (refused_by fault) (λ why. all ≡ Err why)) c.from_residual.ensures
    (line_refused (came c.loop-line.shares) (c.loop-line.number + 1) _ _ _ c.in-Some.ensures.lines c.in_err-shares.field-0.0 all
    c.loop-line.invariant.same c.in_err-shares.ensures.refused)

pub returns-clause-parts : goal.returns-clause-parts
returns-clause-parts c =
    let none : lines_of c.loop-line.rest.now ≡ [] = c.in_default.ensures.lines in
    let same = lines_end (came c.loop-line.shares) (c.loop-line.number + 1) _ (shares_of c.args.text.now) none c.loop-line.invariant.same in
    subst (λ (all : Result (List Part) Unfit). IfOk c.closed.result (λ parts. all ≡ Ok parts.items)) same c.closed.ensures.parts

pub returns-clause-refused : goal.returns-clause-refused
returns-clause-refused c =
    let none : lines_of c.loop-line.rest.now ≡ [] = c.in_default.ensures.lines in
    let same = lines_end (came c.loop-line.shares) (c.loop-line.number + 1) _ (shares_of c.args.text.now) none c.loop-line.invariant.same in
    subst (λ (all : Result (List Part) Unfit). IfErr c.closed.result (λ fault. IfSome (refused_by fault) (λ why. all ≡ Err why))) same c.closed.ensures.refused
