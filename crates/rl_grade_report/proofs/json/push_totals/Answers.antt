use Rattle.std.proofs.Common.{refl}
use Rattle.rl_session.proofs.ListingLemmas.{then_pushed}
use Rattle.rl_grade_report.specs.Json.{counted_json, percents_json}
use Rattle.rl_grade_report.proofs.json.push_totals.Goals as goal

pub returns : goal.returns
returns c =
    let t = c.args.totals in
    then_pushed _ c.args.text.now.items _ _ (percents_json t) (counted_json t) _ c.in_ok-push_counted.ensures refl c.push_percents.ensures
