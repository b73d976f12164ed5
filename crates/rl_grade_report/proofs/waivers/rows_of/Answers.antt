use Rattle.std.proofs.Common.{arith}
use Rattle.rl_grade_report.proofs.WaiverLemmas.{all_there, no_rows, rows_on}
use Rattle.rl_grade_report.proofs.waivers.rows_of.Goals as goal

pub loop-line-preserved : goal.loop-line-preserved
loop-line-preserved c =
    let i = c.loop-line.invariant in
    let e = c.in-Some.ensures in
    record {
      same = rows_on _ _ _ _ _ _ _ _ e.lines c.in_ok-rows.ensures i.same;
      fits = omega (arith, i.fits, e.shorter);
    }

pub returns : goal.returns
returns c = all_there _ _ _ (no_rows _ _ _ c.in_default.ensures.lines) c.loop-line.invariant.same
