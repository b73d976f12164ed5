use Rattle.std.proofs.Common.{◌∙◌, rules, tests}
use Rattle.std.specs.Prelude.{is_ok}
use Rattle.std.proofs.lemmas.Iterator.{YieldsList-from_slice}
use Rattle.std.proofs.lemmas.Iterator.Consumers.{YieldsList-from_filter, count_from_yields_List}
use Rattle.std.proofs.lemmas.List.Sums.{length-filter}
use Rattle.rl_grade_report.specs.declared.verdict.Judged.{Judged}
use Rattle.rl_grade_report.proofs.totals.found_in.Goals as goal

pub returns : goal.returns
returns c =
    let test = λ (j : Judged). is_ok j.found in
    count_from_yields_List c.filter.result _ c.count.ensures.ran
    (YieldsList-from_filter _ test (YieldsList-from_slice c.args.judged.now (cc)) c.filter.ensures.closure (λ x r q k. search (rules, tests)))
    ∙ length-filter test c.args.judged.now
