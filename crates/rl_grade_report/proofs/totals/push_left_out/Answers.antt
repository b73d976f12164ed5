use Rattle.std.proofs.Common.{◌++◌, codes}
use Rattle.rl_session.proofs.ListingLemmas.{pushed_twice, then_pushed}
use Rattle.rl_grade_report.specs.Counts.{count_if}
use Rattle.rl_grade_report.proofs.Parts.{three_parts}
use Rattle.rl_grade_report.proofs.totals.push_left_out.Goals as goal

pub returns : goal.returns
returns c =
    let t = c.args.totals in
    let first = c.args.text.now.items in
    let hidden = count_if (codes ", ") t.hidden (codes " hidden") in
    let waived = count_if (codes ", ") t.waived (codes " waived") in
    let needless = count_if (codes ", ") t.needless (codes " needless waivers") in
    let one = pushed_twice first _ _ hidden waived c.in_ok-push_count_if.ensures c.in_ok-push_count_if-2.ensures in
    then_pushed _ first _ _ needless (hidden ++ waived) _ one (three_parts hidden waived needless) c.push_count_if-3.ensures
