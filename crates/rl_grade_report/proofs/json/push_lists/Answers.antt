use Rattle.std.proofs.Common.{◌++◌, codes}
use Rattle.rl_session.proofs.ListingLemmas.{extended, pushed_twice, then_pushed}
use Rattle.rl_grade_report.specs.Json.{kinds_json, missed_json}
use Rattle.rl_grade_report.proofs.Parts.{five_parts}
use Rattle.rl_grade_report.proofs.json.push_lists.Goals as goal

pub returns : goal.returns
returns c =
    let first = c.args.text.now.items in
    let kinds = kinds_json c.args.judged.now in
    let missed = missed_json c.args.chip.now c.args.layout.now c.args.judged.now in
    let a = codes "\"by_kind\": {" in
    let b = codes "},\n\"missed_flaws\": [" in
    let end = codes "]}\n" in
    let one = pushed_twice first _ _ a kinds c.in_ok-extend_from_slice.ensures.items c.in_ok-push_counts.ensures in
    let two = pushed_twice first _ _ (a ++ kinds) b one c.in_ok-extend_from_slice-2.ensures.items in
    let three = pushed_twice first _ _ ((a ++ kinds) ++ b) missed two c.in_ok-push_missed.ensures in
    then_pushed _ first _ _ end (((a ++ kinds) ++ b) ++ missed) _ three (five_parts a kinds b missed end)
    (extended _ _ _ end c.extend_from_slice-3.ensures.items)
