use Rattle.std.proofs.Common.{[], ◌∷◌, ◌++◌, codes}
use Rattle.rl_report.specs.Pieces.{joined}
use Rattle.rl_session.proofs.ListingLemmas.{extended, pushed_twice, then_pushed}
use Rattle.rl_grade_report.specs.Keys.{said_by}
use Rattle.rl_grade_report.proofs.Parts.{then_two}
use Rattle.rl_grade_report.proofs.keys.push_line.Goals as goal

pub returns : goal.returns
returns c =
    let first = c.args.text.now.items in
    let key = said_by c.args.key in
    let front = key.name ∷ codes " = " ∷ [] in
    let one = pushed_twice first _ _ (joined front) key.text c.in_ok-push_pieces.ensures c.in_ok-push_value.ensures in
    then_pushed _ first _ _ (codes "\n") (joined front ++ key.text) _ one (then_two front key.text (codes "\n"))
    (extended _ _ _ (codes "\n") c.extend_from_slice.ensures.items)
