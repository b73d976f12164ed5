use Rattle.std.proofs.Common.{refl}
use Rattle.rl_session.proofs.ListingLemmas.{then_pushed}
use Rattle.rl_grade_report.specs.Json.{head_json, lists_json}
use Rattle.rl_grade_report.specs.Totals.{totals_of}
use Rattle.rl_grade_report.proofs.json.push_json.Goals as goal

pub returns : goal.returns
returns c =
    let judged = c.args.judged.now in
    let head = head_json c.args.asked c.args.facts (totals_of judged) in
    let lists = lists_json c.args.chip.now c.args.layout.now judged in
    let front = rw c.with.ensures at c.in_ok-push_head.ensures in
    then_pushed _ c.args.text.now.items _ _ lists head _ front refl c.push_lists.ensures
