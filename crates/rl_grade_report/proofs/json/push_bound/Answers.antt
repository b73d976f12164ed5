use Rattle.std.proofs.Common.{◌++◌, [], ◌∷◌, codes}
use Rattle.rl_session.proofs.ListingLemmas.{pushed_twice, then_pushed}
use Rattle.rl_report.specs.Pieces.{joined}
use Rattle.rl_grade_report.specs.Json.{least_json, passed_json}
use Rattle.rl_grade_report.specs.Totals.{is_below}
use Rattle.rl_grade_report.proofs.Parts.{then_pieces}
use Rattle.rl_grade_report.proofs.json.push_bound.Goals as goal

pub returns : goal.returns
returns c =
    let first = c.args.text.now.items in
    let a = codes "\"at_least\": " in
    let least = least_json c.args.bound in
    let rest = codes ", \"passed\": " ∷ passed_json (is_below c.args.bound c.args.totals) ∷ codes ",\n" ∷ [] in
    let pieces = rw (c.passed_json.ensures, c.is_below.ensures) at c.push_pieces.ensures in
    let one = pushed_twice first _ _ a least c.in_ok-extend_from_slice.ensures.items c.in_ok-push_least.ensures in
    then_pushed _ first _ _ (joined rest) (a ++ least) _ one (then_pieces a least rest) pieces
