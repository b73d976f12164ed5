use Rattle.std.proofs.Common.{◌++◌, codes}
use Rattle.rl_session.proofs.ListingLemmas.{extended, pushed_twice, then_pushed}
use Rattle.rl_grade_report.specs.Json.{percent_json}
use Rattle.rl_grade_report.specs.Totals.{findable}
use Rattle.rl_grade_report.proofs.Parts.{five_parts}
use Rattle.rl_grade_report.proofs.json.push_percents.Goals as goal

pub returns : goal.returns
returns c =
    let t = c.args.totals in
    let first = c.args.text.now.items in
    let a = codes ", \"percent\": " in
    let all = percent_json t.found t.flaws in
    let between = codes ", \"percent_findable\": " in
    let some = percent_json t.found (findable t) in
    let findable_is = rw c.findable.ensures at c.in_ok-push_percent-2.ensures in
    let one = pushed_twice first _ _ a all c.in_ok-extend_from_slice.ensures.items c.in_ok-push_percent.ensures in
    let two = pushed_twice first _ _ (a ++ all) between one c.in_ok-extend_from_slice-2.ensures.items in
    let three = pushed_twice first _ _ ((a ++ all) ++ between) some two findable_is in
    then_pushed _ first _ _ (codes ",\n") (((a ++ all) ++ between) ++ some) _ three
    (five_parts a all between some (codes ",\n")) (extended _ _ _ (codes ",\n") c.extend_from_slice-3.ensures.items)
